-- The whole number of a product, by the code's tests: above 0, below 0, zero, and what is not a number. Assumes nothing.
use Rattle.std.proofs.Common.{◌≡◌, ℕ, ◌+◌, ◌*◌, ◌/◌, ◌%◌, ◌^◌, ◌<◌, ◌≤◌, Bool, true, false, ◌&&◌, ◌||◌, eqb, ℤ, pos, ◌-ℤ◌, neg_ℤ, sym, refl, ap, ◌∙◌, subst, true≢false, le_trans, le-div_iff_mul-le, arith, w64, SFits, ltb-false, ltb-true, lt-ltb, eq-eqb, eqb-true}
use mathlib.Core.Bool.{beq, false≢true}
use Rattle.std.specs.Prelude.{Option, None}
use mathlib.Core.Option.{Option as Maybe, none, some}
use Prim.Native.Nat.{compare}
use borrow.Author.Tests.{lt-leb}
use lib.IntN.{ -ℤ-+ℤ_cancel}
use lib.Ieee.{Float, nan, inf, fin, up, down, lt, eq, neg}
use lib.Ieee.Nearest.{closest, closest_same, nearest-ge}
use lib.Ieee.Fits.{down_pos}
use mir.ValLaws.{to_z-of_z}
use Rattle.laws.specs.Ints.{size_of, signed}
use Rattle.laws.proofs.Bools.{and-apart}
use Rattle.laws.proofs.Sizes.{size-add, fits_size, rd}
use Rattle.units.specs.Whole.{whole_of}
use Rattle.units.specs.Coordinates.{within, less, coordinate_of}
use Rattle.units.proofs.Coordinates.{size-minus}

abbrev pub nought : Float
nought = fin false 0 (pos 0)

abbrev pub limit : Float
limit = fin false 1 (pos 64)

-- ---- below 0

pub below_turned : (y : Float) → lt y nought ≡ true → lt nought (neg y) ≡ true
unfolding lt neg
below_turned nan p = p
below_turned (inf true) p = refl
below_turned (inf false) p = p
below_turned (fin true m e) p = let l : 0 < m * up e * 1 + 0 * down e = ltb-true 0 (m * up e * 1 + 0 * down e) p in lt-ltb (0 * down e) (m * up e * 1) (omega arith)
below_turned (fin false m e) p = let l : m * up e * 1 < 0 * down e = ltb-true (m * up e * 1) (0 * down e) p in absurd (omega arith)

none-some : (z : ℤ) → ◌≡◌ {A = Maybe ℤ} none (some z) → ⊥
none-some z e = let q : ◌≡◌ {A = ℕ} 0 1 = cc in omega arith

pub below-whole : (y : Float) (n : ℕ) → lt y nought ≡ true → whole_of (neg y) ≡ some (pos n) → whole_of y ≡ some (signed true n)
unfolding lt neg whole_of signed
below-whole nan n p h = absurd (false≢true p)
below-whole (inf s) n p h = absurd (none-some (pos n) h)
below-whole (fin true m e) n p h = let c : closest (m * up e) (down e) ≡ n = cc in ap (λ (k : ℕ). some (neg_ℤ (pos k))) c
below-whole (fin false m e) n p h = let l : m * up e * 1 < 0 * down e = ltb-true (m * up e * 1) (0 * down e) p in absurd (omega arith)

-- ---- far from every i64

high_size : (m : ℕ) (e : ℤ) → 1 * 2 ^ 64 * down e ≤ m * up e * 1 → 2 ^ 64 ≤ closest (m * up e) (down e)
high_size m e h =
    let l : 2 ^ 64 * down e ≤ m * up e = omega arith in
    le_trans ((le-div_iff_mul-le (down_pos e)).1 l) (nearest-ge (m * up e / down e) (compare (m * up e % down e * 2) (down e)))

far_from : (z o : ℤ) → SFits w64 o → 2 ^ 64 ≤ size_of z → None ≡ coordinate_of (some z) o
unfolding coordinate_of within less
far_from z o f h =
    let g : size_of z ≤ size_of (z -ℤ o) + size_of o = subst (λ (y : ℤ). size_of y ≤ size_of (z -ℤ o) + size_of o) (-ℤ-+ℤ_cancel z o) (size-add (z -ℤ o) o) in
    let k : 10000 < size_of (z -ℤ o) = omega (arith, g, fits_size o f) in
    rw (lt-leb (size_of (z -ℤ o)) 10000 k)

none_far : (o : ℤ) → None ≡ coordinate_of none o
unfolding coordinate_of within
none_far o = refl

pub above_far : (y : Float) (o : ℤ) → SFits w64 o → lt nought y ≡ true → lt y limit ≡ false → None ≡ coordinate_of (whole_of y) o
unfolding lt whole_of signed size_of
above_far nan o f p h = absurd (false≢true p)
above_far (inf s) o f p h = none_far o
above_far (fin true m e) o f p h = absurd (false≢true p)
above_far (fin false m e) o f p h = far_from (pos (closest (m * up e) (down e))) o f (high_size m e (ltb-false (m * up e * 1) (1 * 2 ^ 64 * down e) h))

pub below_far : (y : Float) (o : ℤ) → SFits w64 o → lt y nought ≡ true → lt (neg y) limit ≡ false → None ≡ coordinate_of (whole_of y) o
unfolding lt neg whole_of signed
below_far nan o f p h = absurd (false≢true p)
below_far (inf s) o f p h = none_far o
below_far (fin true m e) o f p h =
    let c = closest (m * up e) (down e) in
    let g : 2 ^ 64 ≤ c = high_size m e (ltb-false (m * up e * 1) (1 * 2 ^ 64 * down e) h) in
    far_from (neg_ℤ (pos c)) o f (omega (arith, g, size-minus c))
below_far (fin false m e) o f p h = let l : m * up e * 1 < 0 * down e = ltb-true (m * up e * 1) (0 * down e) p in absurd (omega arith)

-- ---- zero

closest_zero : (d : ℕ) → 0 < d → closest 0 d ≡ 0
closest_zero d D = closest_same 0 d 0 1 D (omega arith) (omega arith)

pub zero-whole : (y : Float) → eq y nought ≡ true → whole_of y ≡ some (signed false 0)
unfolding eq whole_of signed
zero-whole nan p = absurd (false≢true p)
zero-whole (inf s) p = absurd (false≢true p)
zero-whole (fin s m e) p =
    let z : m * up e * 1 ≡ 0 * down e = eqb-true (m * up e * 1) (0 * down e) (and-apart (eqb (m * up e * 1) (0 * down e)) (beq s false || eqb (m * up e * 1) 0) p).0 in
    let w : m * up e ≡ 0 = omega arith in
    let c : closest (m * up e) (down e) ≡ 0 = ap (λ (k : ℕ). closest k (down e)) w ∙ closest_zero (down e) (down_pos e) in
    ap (λ (k : ℕ). some (signed s k)) c ∙ go s
  where
    go : (s : Bool) → some (signed s 0) ≡ some (pos 0)
    go true = refl
    go false = refl

-- ---- neither

pub other_far : (y : Float) (o : ℤ) → lt nought y ≡ false → lt y nought ≡ false → eq y nought ≡ false → None ≡ coordinate_of (whole_of y) o
unfolding lt eq whole_of
other_far nan o p q r = none_far o
other_far (inf s) o p q r = none_far o
other_far (fin true m e) o p q r = absurd (true≢false (sym yes ∙ r))
  where
    z : m * up e * 1 ≡ 0
    z = omega (arith, ltb-false 0 (m * up e * 1 + 0 * down e) q)

    yes : eqb (m * up e * 1) (0 * down e) && (beq true false || eqb (m * up e * 1) 0) ≡ true
    yes = rw (eq-eqb (m * up e * 1) (0 * down e) (omega (arith, z)), eq-eqb (m * up e * 1) 0 z)
other_far (fin false m e) o p q r = absurd (true≢false (sym yes ∙ r))
  where
    z : m * up e * 1 ≡ 0
    z = omega (arith, ltb-false (0 * down e) (m * up e * 1) p)

    yes : eqb (m * up e * 1) (0 * down e) && (beq false false || eqb (m * up e * 1) 0) ≡ true
    yes = rw (eq-eqb (m * up e * 1) (0 * down e) (omega (arith, z)))

-- ---- what the callee answers of the bits of the origin

pub read_back : (b : Bool) (n : ℕ) (o : ℤ) {w : Maybe ℤ} {r : Option ℤ} → SFits w64 o → w ≡ some (signed b n) → r ≡ coordinate_of (some (signed b n)) (rd o) → r ≡ coordinate_of w o
read_back b n o f e g = g ∙ ap (coordinate_of (some (signed b n))) (to_z-of_z w64 o f) ∙ ap (λ (v : Maybe ℤ). coordinate_of v o) (sym e)
