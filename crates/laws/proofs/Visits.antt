-- A loop over the set digits of a mask, the lowest first, does what is to be done for the list of their places. Assumes nothing.
use mathlib.Core.Path.{◌≡◌, sym, ap, ap₂, ◌∙◌}
use mathlib.Core.Bool.{cond}
use mathlib.Core.Logic.{⊎_elim}
use mathlib.Core.List.{List, [], ◌∷◌, ◌++◌}
use Prim.Native.Nat.{ℕ, suc, ◌+◌, ◌-◌, ◌*◌, ◌%◌, ◌^◌, ◌≤◌, ◌<◌}
use native.Mathlib.Nat.{one-mul, mod-eq_of_lt}
use native.Mathlib.Omega.{arith}
use lib.Dec.{eqb}
use lib.Bits.{bit_and, bit_xor, xor_lt, mask_lt}
use lib.Count.{count_trailing_zeros, ones_in}
use lib.Pow.{pow-lt, pow_mono}
use Rattle.laws.specs.Digits.{digit, is_set}
use Rattle.laws.specs.Inner.Visits.{set_places, Visiting}
use Rattle.laws.specs.Ranges.{each}
use Rattle.laws.specs.Lists.{keep}
use Rattle.laws.proofs.Ranges.{eq-or, each_keep, each_same, each_nil, each-split}
use Rattle.laws.proofs.Digits.{digit_lt, digit-zero, digit_and, digit_xor, digit-all, digit-pow-same, digit-pow_other, digit_set, digit_unset, low-set, low-least, low-lt, and-less, ones_sum, ones_pow}

-- ---- one digit taken off: it is no longer set, and the others stay

pub off-same : (m l : ℕ) → digit m l ≡ 1 → digit (bit_xor m (2 ^ l)) l ≡ 0
off-same m l s = omega (arith, digit_xor m (2 ^ l) l, digit-pow-same l)

pub off_other : (m l e : ℕ) → (l ≡ e → ⊥) → digit (bit_xor m (2 ^ l)) e ≡ digit m e
off_other m l e n = omega (arith, digit_xor m (2 ^ l) e, digit-pow_other l e n, digit_lt m e)

-- ---- the places of the set digits, one by one

-- what the digit at e gives
abbrev at : ℕ → ℕ → List ℕ
at m e = cond (is_set m e) (e ∷ []) []

at_unset : (m e : ℕ) → digit m e ≡ 0 → at m e ≡ []
at_unset m e h = rw (digit_unset m e h)

at_set : (m e : ℕ) → digit m e ≡ 1 → at m e ≡ e ∷ []
at_set m e h = rw (digit_set m e h)

at_same : (a b e : ℕ) → digit a e ≡ digit b e → at a e ≡ at b e
unfolding is_set
at_same a b e h = ap (λ (d : ℕ). cond (eqb d 1) (e ∷ []) []) h

places_each : (k m : ℕ) → set_places k m ≡ each k (at m)
unfolding set_places keep
places_each k m = each_keep (is_set m) k (λ e. e ∷ [])

-- the mask 0 has none
pub places_none : (k : ℕ) → set_places k 0 ≡ []
places_none k = places_each k 0 ∙ each_nil k (at 0) (λ e l. at_unset 0 e (digit-zero e))

-- the k lowest digits alone count
pub places_low : (k m : ℕ) → set_places k (bit_and m (2 ^ k - 1)) ≡ set_places k m
places_low k m =
    places_each k (bit_and m (2 ^ k - 1))
    ∙ each_same k (at (bit_and m (2 ^ k - 1))) (at m)
    (λ e l. at_same (bit_and m (2 ^ k - 1)) m e (omega (arith, digit_and m (2 ^ k - 1) e, digit-all k e l, digit_lt m e)))
    ∙ sym (places_each k m)

-- ---- the lowest set digit of a mask of k digits, in a word of w, taken off

module _ (w k m : ℕ) (fits : k ≤ w) (some : 0 < m) (short : m < 2 ^ k) where
  whole : m < 2 ^ w
  whole = omega (arith, pow_mono fits)

  pub low-here : count_trailing_zeros w m < k
  low-here = low-lt w k m some whole short

  -- as a mask: the language's 1 << e
  pub low_bit_lem : 1 * 2 ^ count_trailing_zeros w m % 2 ^ w ≡ 2 ^ count_trailing_zeros w m
  low_bit_lem = rw one-mul (mod-eq_of_lt (pow-lt {i = count_trailing_zeros w m} {j = w} (omega (arith, low-here))))

  -- taken off by the language's m & (m - 1)
  pub low-off : bit_and m (m - 1) ≡ bit_xor m (2 ^ count_trailing_zeros w m)
  low-off = and-less w m some whole

  pub off-short : bit_xor m (2 ^ count_trailing_zeros w m) < 2 ^ k
  off-short = xor_lt k m (2 ^ count_trailing_zeros w m) short (pow-lt low-here)

  -- there is one digit less: the measure of the loop
  pub off_less : ones_in k (bit_xor m (2 ^ count_trailing_zeros w m)) < ones_in k m
  off_less =
      let l = count_trailing_zeros w m in
      omega (arith, ones_pow k l low-here, ones_sum k (bit_xor m (2 ^ l)) (2 ^ l) m (λ e. ⊎_elim (here e) (λ q. omega (arith, digit-pow_other l e q, off_other m l e q)) (eq-or l e)))
    where
      here : (e : ℕ) → count_trailing_zeros w m ≡ e → digit (bit_xor m (2 ^ count_trailing_zeros w m)) e + digit (2 ^ count_trailing_zeros w m) e ≡ digit m e
      here e q =
          let l = count_trailing_zeros w m in
          omega (arith, ap (digit m) q, low-set w m some whole, ap (digit (2 ^ l)) q, digit-pow-same l, digit_xor m (2 ^ l) e)

  -- ITS PLACE IS THE FIRST, AND THE OTHERS FOLLOW
  pub places_turn : set_places k m ≡ count_trailing_zeros w m ∷ set_places k (bit_xor m (2 ^ count_trailing_zeros w m))
  places_turn =
      places_each k m ∙ first (k - suc (count_trailing_zeros w m)) (omega (arith, low-here))
      ∙ ap (λ (x : List ℕ). count_trailing_zeros w m ∷ x) (sym (places_each k (bit_xor m (2 ^ count_trailing_zeros w m))))
    where
      first : (r : ℕ) → count_trailing_zeros w m + suc r ≡ k → each k (at m) ≡ count_trailing_zeros w m ∷ each k (at (bit_xor m (2 ^ count_trailing_zeros w m)))
      first r e =
          let l = count_trailing_zeros w m in
          let n = bit_xor m (2 ^ l) in
          let before : each l (at m) ≡ [] = each_nil l (at m) (λ j h. at_unset m j (low-least w m j h)) in
          let before' : each l (at n) ≡ [] = each_nil l (at n) (λ j h. at_unset n j (off_other m l j (λ q. omega arith) ∙ low-least w m j h)) in
          let it : at m l ≡ l ∷ [] = at_set m l (low-set w m some whole) in
          let it' : at n l ≡ [] = at_unset n l (off-same m l (low-set w m some whole)) in
          let after : each r (λ j. at m (l + suc j)) ≡ each r (λ j. at n (l + suc j)) =
          each_same r (λ j. at m (l + suc j)) (λ j. at n (l + suc j)) (λ j h. at_same m n (l + suc j) (sym (off_other m l (l + suc j) (λ q. omega arith)))) in
          ap (λ (j : ℕ). each j (at m)) (sym e) ∙ each-split l r (at m)
          ∙ ap₂ (λ (x y : List ℕ). x ++ (y ++ each r (λ j. at m (l + suc j)))) before it
          ∙ ap (λ (x : List ℕ). l ∷ x) (after
          ∙ sym (ap (λ (j : ℕ). each j (at n)) (sym e) ∙ each-split l r (at n)
          ∙ ap₂ (λ (x y : List ℕ). x ++ (y ++ each r (λ j. at n (l + suc j)))) before' it'))

-- ---- the loop

module _ {A : Type 0} (Does : List ℕ → A → A → Type 0) where
  -- at first the k lowest digits of m are left
  pub visit_start : (k m : ℕ) (a : A) → Visiting Does k m a (bit_and m (2 ^ k - 1)) a
  visit_start k m a = record { short = mask_lt m k; ahead = λ b d. rw (places_low k m) at d }

  -- A TURN: the lowest digit that is left is done
  pub visit_turn : (w : ℕ) {k m rest : ℕ} {a₀ a : A} → ((a b c : A) (e : ℕ) (es : List ℕ) → Does (e ∷ []) a b → Does es b c → Does (e ∷ es) a c) → k ≤ w → 0 < rest
      → Visiting Does k m a₀ rest a → (a' : A) → Does (count_trailing_zeros w rest ∷ []) a a' → Visiting Does k m a₀ (bit_xor rest (2 ^ count_trailing_zeros w rest)) a'
  visit_turn w {k} {m} {rest} {a₀} {a} more fits some v a' d = record {
    short = off-short w k rest fits some v.short;
    ahead = λ b r. v.ahead b (rw (places_turn w k rest fits some v.short) (more a a' b (count_trailing_zeros w rest) (set_places k (bit_xor rest (2 ^ count_trailing_zeros w rest))) d r));
  }

  -- none is left, and all is done
  pub visit_end : {k m rest : ℕ} {a₀ a : A} → Does [] a a → rest ≡ 0 → Visiting Does k m a₀ rest a → Does (set_places k m) a₀ a
  visit_end {k} {m} {rest} {a₀} {a} none z v = v.ahead a (rw (z, places_none k) none)
