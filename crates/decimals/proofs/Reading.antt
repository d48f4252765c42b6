-- The ways out of the readers, one law each, over reading as a function of the bytes. Assumes nothing.
use mathlib.Core.Path.{◌≡◌, refl, sym, ap, ◌∙◌}
use mathlib.Core.List.{List, [], ◌∷◌}
use Prim.Native.Nat.{ℕ, zero, suc, ◌+◌, ◌-◌, ◌*◌, ◌^◌, ◌≤◌, ◌<◌}
use native.Mathlib.Numerals.{add-one}
use native.Mathlib.Omega.{arith}
use borrow.Author.Tests.{lt-ltb, le-ltb, eq-eqb, ne_eqb, ltb-true, ltb-false}
use lib.IntN.{ℤ, pos, negsuc, ◌-ℤ◌}
use lib.ListN.{length, get_or, take, drop, drop_of_length-le}
use lib.Seq.{drop-cons}
use mir.Syntax.{w64}
use mir.ValLaws.{to_z-of_z}
use Rattle.std.specs.Prelude.{Option, Some, None, Result, Ok, Err, OkIff, FitsSigned, Bool, true, false, ◌&&◌, cond, eqb, ltb}
use Rattle.std.specs.Result.{result_ok}
use Rattle.std.specs.Cmp.Lexicographic.{pointwise}
use Rattle.std.proofs.Common.{true≢false}
use mathlib.Core.Bool.{false≢true}
use Rattle.laws.proofs.Ints.{nat, minus-suc, neg, ◌⊞◌, rep_eq}
use Rattle.laws.proofs.Sizes.{rd}
use Rattle.decimals.specs.Readers.{NaturalOf, SignedOf}
use Rattle.decimals.proofs.Meaning.{read_more, read_dec, upward, downward, read_signed, of_natural, signed_of}

-- ---- the loop: what is to be answered is what reading on answers

-- n is read off the front of l, and what is to come is the rest from i on
pub record Sofar (l rest : List ℕ) (n i : ℕ) : Type 0 where
  pub on : read_dec l ≡ read_more n (drop i rest)

pub none-empty : (l : List ℕ) → length l ≡ 0 → None ≡ read_dec l
unfolding read_dec
none-empty [] e = refl
none-empty (b ∷ l) e = absurd (omega arith)

-- the bytes of a digit, and the others
abbrev pub Digit : ℕ → Type 0
Digit b = (48 ≤ b) × (b ≤ 57)

other_byte : (b : ℕ) {A : Type 0} (x y : A) → (Digit b → ⊥) → cond (ltb b 48) x (cond (ltb 57 b) x y) ≡ x
other_byte b x y h = go (ltb b 48) (ltb 57 b) refl refl
  where
    go : (p q : Bool) → ltb b 48 ≡ p → ltb 57 b ≡ q → cond p x (cond q x y) ≡ x
    go true q P Q = refl
    go false true P Q = refl
    go false false P Q = absurd (h (ltb-false b 48 P, ltb-false 57 b Q))

module _ (l rest : List ℕ) (b : ℕ) (e : l ≡ b ∷ rest) where
  pub first_other : (Digit b → ⊥) → None ≡ read_dec l
  unfolding read_dec
  first_other h = sym (ap read_dec e ∙ other_byte b None (read_more (b - 48) rest) h)

  pub first-digit : (n : ℕ) → Digit b → n ≡ b - 48 → Sofar l rest n 0
  unfolding read_dec
  first-digit n h k = record { on = ap read_dec e ∙ rw (le-ltb b 48 h.0, le-ltb 57 b h.1, k) }

module _ (l rest : List ℕ) (n i : ℕ) (at : Sofar l rest n i) where
  module _ (h : i < length rest) where
    abbrev b : ℕ
    b = get_or rest i 0

    next : drop i rest ≡ b ∷ drop (i + 1) rest
    next = rw (add-one i) (drop-cons rest i 0 h)

    here : read_dec l ≡ read_more n (b ∷ drop (i + 1) rest)
    here = at.on ∙ ap (read_more n) next

    pub stop-other : (Digit b → ⊥) → None ≡ read_dec l
    unfolding read_more
    stop-other h = sym (here ∙ other_byte b None _ h)

    pub stop-zero : n ≡ 0 → None ≡ read_dec l
    unfolding read_more
    stop-zero z = sym (here ∙ rw (eq-eqb n 0 z) (go (ltb b 48) (ltb 57 b)))
      where
        go : (p q : Bool) → cond {A = Option ℕ} p None (cond q None None) ≡ None
        go true q = refl
        go false true = refl
        go false false = refl

    module _ (d : Digit b) where
      pub stop_long : (n * 10 + (b - 48) < 2 ^ 64 → ⊥) → None ≡ read_dec l
      unfolding read_more
      stop_long g =
          let z : (n ≡ 0 → ⊥) = λ (q : n ≡ 0). g (omega (arith, d.1)) in
          sym (here ∙ rw (le-ltb b 48 d.0, le-ltb 57 b d.1, ne_eqb n 0 z, lt-ltb 18446744073709551615 (n * 10 + (b - 48)) (omega (arith, g))))

      pub turn : (m : ℕ) → (n ≡ 0 → ⊥) → n * 10 + (b - 48) < 2 ^ 64 → m ≡ n * 10 + (b - 48) → Sofar l rest m (i + 1)
      unfolding read_more
      turn m z g e = record {
        on = here ∙ rw (le-ltb b 48 d.0, le-ltb 57 b d.1, ne_eqb n 0 z, le-ltb 18446744073709551615 (n * 10 + (b - 48)) (omega arith), e);
      }

  pub done : length rest ≤ i → Some n ≡ read_dec l
  unfolding read_more
  done h = sym (at.on ∙ ap (read_more n) (drop_of_length-le rest h))

-- ---- with a sign

-- a minus stands in front, or none does
minus_front : (l : List ℕ) → pointwise eqb (take 1 l) (45 ∷ []) ≡ true → read_signed l ≡ downward (read_dec (drop 1 l))
unfolding read_signed
minus_front [] e = absurd (false≢true e)
minus_front (b ∷ l) e = go (eqb b 45) e
  where
    go : (c : Bool) → c && true ≡ true → cond c (downward (read_dec l)) (upward (read_dec (b ∷ l))) ≡ downward (read_dec l)
    go true e = refl
    go false e = absurd (false≢true e)

no_minus : (l : List ℕ) → pointwise eqb (take 1 l) (45 ∷ []) ≡ false → read_signed l ≡ upward (read_dec l)
unfolding read_signed upward read_dec
no_minus [] e = refl
no_minus (b ∷ l) e = go (eqb b 45) e
  where
    go : (c : Bool) → c && true ≡ false → cond c (downward (read_dec l)) (upward (read_dec (b ∷ l))) ≡ upward (read_dec (b ∷ l))
    go true e = absurd (true≢false e)
    go false e = refl

-- the number of 63 bits that the library makes of n, if it is one
pub tried : {E : Type 0} (n : ℕ) (r : Result ℤ E) (o : Option ℤ) → OkIff r (FitsSigned w64 (pos n)) (pos n) → o ≡ result_ok r → o ≡ upward (Some n)
unfolding upward
tried n (Ok z) o h e = e ∙ rw (le-ltb 9223372036854775807 n (omega (arith, h.0.sfits))) (ap Some h.1)
tried n (Err x) o h e = e ∙ go (ltb 9223372036854775807 n) refl
  where
    go : (c : Bool) → ltb 9223372036854775807 n ≡ c → None ≡ cond c None (Some (pos n))
    go true g = refl
    go false g = absurd (h (record { sfits = omega (arith, ltb-false 9223372036854775807 n g) }))

minus_one : (m : ℕ) → m < 2 ^ 63 → rd (negsuc 0 -ℤ rd (pos m)) ≡ negsuc m
minus_one m h =
    let e : negsuc 0 -ℤ rd (pos m) ≡ negsuc m = ap (λ (y : ℤ). negsuc 0 -ℤ y) (to_z-of_z w64 (pos m) (record { sfits = h })) ∙ rep_eq (minus-suc 0 ⊞ neg (nat m)) (minus-suc m) (omega arith) in
    ap rd e ∙ to_z-of_z w64 (negsuc m) (record { sfits = h })

pub down_zero : (n : ℕ) → (1 ≤ n → ⊥) → None ≡ downward (Some n)
unfolding downward
down_zero zero h = refl
down_zero (suc n) h = absurd (h (omega arith))

-- of one less than n, which is taken or not, the number below 0 is the complement
module _ (n m : ℕ) (e : (1 ≤ n) × (m ≡ n - 1)) where
  some_n : n ≡ 0 → ⊥
  some_n z = omega arith

  pub down_none : None ≡ upward (Some m) → None ≡ downward (Some n)
  unfolding upward downward
  down_none q = go (ltb 9223372036854775807 m) refl q
    where
      go : (c : Bool) → ltb 9223372036854775807 m ≡ c → None ≡ cond c None (Some (pos m)) → None ≡ cond (eqb n 0) None (cond (ltb 9223372036854775808 n) None (Some (negsuc (n - 1))))
      go true g q = rw (ne_eqb n 0 some_n, lt-ltb 9223372036854775808 n (omega (arith, ltb-true 9223372036854775807 m g)))
      go false g q = let k : ◌≡◌ {A = ℕ} 0 1 = cc in absurd (omega arith)

  pub down_some : (z : ℤ) → Some z ≡ upward (Some m) → Some (rd (negsuc 0 -ℤ rd z)) ≡ downward (Some n)
  unfolding upward downward
  down_some z q = go (ltb 9223372036854775807 m) refl q
    where
      go : (c : Bool) → ltb 9223372036854775807 m ≡ c → Some z ≡ cond c None (Some (pos m))
          → Some (rd (negsuc 0 -ℤ rd z)) ≡ cond (eqb n 0) None (cond (ltb 9223372036854775808 n) None (Some (negsuc (n - 1))))
      go true g q = let k : ◌≡◌ {A = ℕ} 0 1 = cc in absurd (omega arith)
      go false g q =
          let l : m ≤ 9223372036854775807 = ltb-false 9223372036854775807 m g in
          let k : z ≡ pos m = cc in
          ap Some (ap (λ (y : ℤ). rd (negsuc 0 -ℤ rd y)) k ∙ minus_one m (omega arith) ∙ ap negsuc e.1)
          ∙ sym (rw (ne_eqb n 0 some_n, le-ltb 9223372036854775808 n (omega arith)))

-- what is answered of all the bytes, by what is read of the digits
pub below : (l digits : List ℕ) (r : Option ℕ) (q : Option ℤ) → pointwise eqb (take 1 l) (45 ∷ []) ≡ true → digits ≡ drop 1 l → NaturalOf digits r → q ≡ downward r → SignedOf l q
below l digits r q e f a g = signed_of l q (g ∙ ap downward (of_natural digits a ∙ ap read_dec f) ∙ sym (minus_front l e))

pub above : (l : List ℕ) (r : Option ℕ) (q : Option ℤ) → pointwise eqb (take 1 l) (45 ∷ []) ≡ false → NaturalOf l r → q ≡ upward r → SignedOf l q
above l r q e a g = signed_of l q (g ∙ ap upward (of_natural l a) ∙ sym (no_minus l e))
