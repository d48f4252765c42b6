-- Triangles by their directed sides: how often one runs a pair, and that a triangle with a repeated vertex runs it as often either way. Assumes nothing.
use mathlib.Core.Path.{◌≡◌, refl, sym, ap, ◌∙◌}
use mathlib.Core.Bool.{Bool, true, false, not, ◌&&◌, ◌||◌, cond, true≢false}
use mathlib.Core.List.{List, [], ◌∷◌}
use Prim.Native.Nat.{ℕ, ◌+◌}
use native.Mathlib.Omega.{arith}
use borrow.Author.Tests.{eqb-true, eqb-false, not-true}
use lib.Dec.{T, eqb, eqb→eq}
use lib.ListN.{get_or}
use Rattle.laws.specs.Bools.{bit, all_bools}
use Rattle.laws.specs.Lists.{keep, count, All}
use Rattle.laws.specs.Couples.{turn, from_to}
use Rattle.laws.specs.Triangles.{Tri, sides_of}
use Rattle.laws.proofs.Bools.{bools_at, and_left, and_right, and-apart}
use Rattle.laws.proofs.Couples.{turn-from}
use Rattle.march.specs.March.{proper}
use Rattle.march.specs.Runs.{runs, touches}

module _ (p q : ℕ) where
  -- how many of the three sides of a triangle run p to q
  hits : Tri → ℕ
  hits t = bit (from_to p q (t.0, t.1)) + bit (from_to p q (t.1, t.2)) + bit (from_to p q (t.2, t.0))

module _ (p q : ℕ) where
  turned : (a b : ℕ) → bit (from_to p q (a, b)) ≡ bit (from_to q p (b, a))
  unfolding turn
  turned a b = ap bit (turn-from p q (b, a))

  -- ---- a triangle that is dropped

  improper_even : (t : Tri) → proper t ≡ false → hits p q t ≡ hits q p t
  unfolding hits proper
  improper_even t n = go (eqb t.0 t.1) (eqb t.1 t.2) (eqb t.0 t.2) (eqb→eq t.0 t.1) (eqb→eq t.1 t.2) (eqb→eq t.0 t.2) n
    where
      go : (x y z : Bool) → (T x → t.0 ≡ t.1) → (T y → t.1 ≡ t.2) → (T z → t.0 ≡ t.2) → not x && not y && not z ≡ false → hits p q t ≡ hits q p t
      go true y z e f g n = rw (e tt) (omega (arith, turned t.1 t.1, turned t.1 t.2, turned t.2 t.1))
      go false true z e f g n = rw (f tt) (omega (arith, turned t.2 t.2, turned t.0 t.2, turned t.2 t.0))
      go false false true e f g n = rw (g tt) (omega (arith, turned t.2 t.2, turned t.2 t.1, turned t.1 t.2))
      go false false false e f g n = absurd (true≢false n)

  -- what is dropped leaves the balance as it was
  pub keep_even : (ts : List Tri)
      → count (from_to p q) (sides_of (keep proper ts)) + count (from_to q p) (sides_of ts)
      ≡ count (from_to q p) (sides_of (keep proper ts)) + count (from_to p q) (sides_of ts)
  unfolding keep sides_of count hits
  keep_even [] = refl
  keep_even (t ∷ ts) = go (proper t) (improper_even t) (keep_even ts)
    where
      go : (b : Bool) → (b ≡ false → hits p q t ≡ hits q p t)
          → count (from_to p q) (sides_of (keep proper ts)) + count (from_to q p) (sides_of ts) ≡ count (from_to q p) (sides_of (keep proper ts)) + count (from_to p q) (sides_of ts)
          → count (from_to p q) (sides_of (cond b (t ∷ keep proper ts) (keep proper ts))) + count (from_to q p) (sides_of (t ∷ ts))
          ≡ count (from_to q p) (sides_of (cond b (t ∷ keep proper ts) (keep proper ts))) + count (from_to p q) (sides_of (t ∷ ts))
      go true e ih = omega arith
      go false e ih = omega (arith, e refl)

-- ---- a triangle that is kept: at most one of its sides runs p to q or q to p

-- a, b, c say which of the three vertices are p, and a', b', c' which are q
-- two of them are the same
several : Bool → Bool → Bool → Bool
several a b c = (a && b) || (b && c) || (a && c)

-- whether one side at least runs p to q, and how many do
some : Bool → Bool → Bool → Bool → Bool → Bool → Bool
some a b c a' b' c' = (a && b') || (b && c') || (c && a')

many : Bool → Bool → Bool → Bool → Bool → Bool → ℕ
many a b c a' b' c' = bit (a && b') + bit (b && c') + bit (c && a')

-- of three different vertices: the sides p to q are counted one by one, and no side of the triangle runs the other way
fair : Bool → Bool → Bool → Bool → Bool → Bool → Bool
fair a b c a' b' c' =
    several a b c || several a' b' c'
    || (eqb (bit (some a b c a' b' c')) (many a b c a' b' c')
    && eqb (bit (some a b c a' b' c' || some a' b' c' a b c)) (bit (some a b c a' b' c') + bit (some a' b' c' a b c)))

all_fair : (a b c a' b' c' : Bool) → T (fair a b c a' b' c')
unfolding all_bools fair several some many bit
all_fair a b c a' b' c' =
    bools_at 6 (λ l. fair (get_or l 0 false) (get_or l 1 false) (get_or l 2 false) (get_or l 3 false) (get_or l 4 false) (get_or l 5 false)) tt
    (a ∷ b ∷ c ∷ a' ∷ b' ∷ c' ∷ []) refl

one_way : (a b c a' b' c' : Bool) → several a b c ≡ false → several a' b' c' ≡ false
    → (bit (some a b c a' b' c') ≡ many a b c a' b' c') × (bit (some a b c a' b' c' || some a' b' c' a b c) ≡ bit (some a b c a' b' c') + bit (some a' b' c' a b c))
unfolding fair
one_way a b c a' b' c' e f =
    let x = eqb (bit (some a b c a' b' c')) (many a b c a' b' c') in
    let y = eqb (bit (some a b c a' b' c' || some a' b' c' a b c)) (bit (some a b c a' b' c') + bit (some a' b' c' a b c)) in
    let t : T (x && y) = neither (several a b c) (several a' b' c') (x && y) e f (all_fair a b c a' b' c') in
    (eqb→eq _ _ (and_left x y t), eqb→eq _ _ (and_right x y t))
  where
    neither : (x y z : Bool) → x ≡ false → y ≡ false → T (x || y || z) → T z
    neither true y z e f t = absurd (true≢false e)
    neither false true z e f t = absurd (true≢false f)
    neither false false z e f t = t

-- not two of three different numbers are p
single : (t : Tri) (p : ℕ) → proper t ≡ true → several (eqb t.0 p) (eqb t.1 p) (eqb t.2 p) ≡ false
unfolding proper several
single t p h =
    let x = and-apart (not (eqb t.0 t.1) && not (eqb t.1 t.2)) (not (eqb t.0 t.2)) h in
    let y = and-apart (not (eqb t.0 t.1)) (not (eqb t.1 t.2)) x.0 in
    rw (
      apart t.0 t.1 (not-true (eqb t.0 t.1) y.0),
      apart t.1 t.2 (not-true (eqb t.1 t.2) y.1),
      apart t.0 t.2 (not-true (eqb t.0 t.2) x.1),
    )
  where
    apart : (a b : ℕ) → eqb a b ≡ false → eqb a p && eqb b p ≡ false
    apart a b n = go (eqb a p) (eqb b p) refl refl
      where
        go : (x y : Bool) → eqb a p ≡ x → eqb b p ≡ y → x && y ≡ false
        go true true e f = absurd (eqb-false a b n (eqb-true a p e ∙ sym (eqb-true b p f)))
        go true false e f = refl
        go false y e f = refl

-- ---- counts over proper triangles

module _ (p q : ℕ) where
  pub runs-sides : (ts : List Tri) → All (λ t. proper t ≡ true) ts → count (runs p q) ts ≡ count (from_to p q) (sides_of ts)
  unfolding All count sides_of runs from_to some many
  runs-sides [] a = refl
  runs-sides (t ∷ ts) a =
      let e = one_way (eqb t.0 p) (eqb t.1 p) (eqb t.2 p) (eqb t.0 q) (eqb t.1 q) (eqb t.2 q) (single t p a.0) (single t q a.0) in
      omega (arith, e.0, runs-sides ts a.1)

  pub touch_runs : (ts : List Tri) → All (λ t. proper t ≡ true) ts → count (touches p q) ts ≡ count (runs p q) ts + count (runs q p) ts
  unfolding All count touches runs some
  touch_runs [] a = refl
  touch_runs (t ∷ ts) a =
      let e = one_way (eqb t.0 p) (eqb t.1 p) (eqb t.2 p) (eqb t.0 q) (eqb t.1 q) (eqb t.2 q) (single t p a.0) (single t q a.0) in
      omega (arith, e.1, touch_runs ts a.1)
