-- A whole number less an i64 origin: what is small is given exactly, and no step overflows. Assumes nothing.
use Rattle.std.proofs.Common.{◌≡◌, ℕ, ◌+◌, ◌-◌, ◌^◌, ◌<◌, ◌≤◌, Bool, true, false, cond, leb, ℤ, pos, ◌-ℤ◌, neg_ℤ, sym, refl, ap, ◌∙◌, ap₂, arith, w64, SFits, to_z, le-leb}
use Rattle.std.specs.Prelude.{Option, Some, None}
use mathlib.Core.Option.{some}
use borrow.Author.Tests.{lt-leb}
use lib.IntN.{+ℤ_idl}
use lib.Signed.{lt_z}
use mir.ValLaws.{to_z_pos, to_z-of_z}
use Rattle.laws.specs.Ints.{size_of, signed}
use Rattle.laws.proofs.Ints.{nat, ◌⊞◌, neg, rep_eq}
use Rattle.laws.proofs.Sizes.{size_neg, size_fits, rd, rd-small, below-zero, not-below}
use Rattle.units.specs.Coordinates.{within, less, coordinate_of}

-- ---- the answer by the difference

pub same_coordinate : (y o z q : ℤ) → y -ℤ o ≡ z -ℤ q → coordinate_of (some y) o ≡ coordinate_of (some z) q
unfolding coordinate_of within less
same_coordinate y o z q e = ap (λ (d : ℤ). cond (leb (size_of d) 10000) (Some d) None) e

near : (z o d : ℤ) → z -ℤ o ≡ d → size_of d ≤ 10000 → Some d ≡ coordinate_of (some z) o
unfolding coordinate_of within less
near z o d e h = rw (e, le-leb (size_of d) 10000 h)

far : (z o d : ℤ) → z -ℤ o ≡ d → 10000 < size_of d → None ≡ coordinate_of (some z) o
unfolding coordinate_of within less
far z o d e h = rw (e, lt-leb (size_of d) 10000 h)

size-plus : (d : ℕ) → size_of (pos d) ≡ d
unfolding size_of
size-plus d = refl

pub size-minus : (d : ℕ) → size_of (neg_ℤ (pos d)) ≡ d
size-minus d = size_neg (pos d) ∙ size-plus d

module _ (z o : ℤ) (d : ℕ) where
  pub far_plus : z -ℤ o ≡ pos d → 10000 < d → None ≡ coordinate_of (some z) o
  far_plus e h = far z o (pos d) e (omega (arith, size-plus d))

  pub far_minus : z -ℤ o ≡ neg_ℤ (pos d) → 10000 < d → None ≡ coordinate_of (some z) o
  far_minus e h = far z o (neg_ℤ (pos d)) e (omega (arith, size-minus d))

  pub at-plus : z -ℤ o ≡ pos d → d ≤ 10000 → Some (to_z w64 d) ≡ coordinate_of (some z) o
  at-plus e h = ap Some (to_z_pos w64 d (omega arith)) ∙ near z o (pos d) e (omega (arith, size-plus d))

  minus_is : d < 2 ^ 63 → pos 0 -ℤ to_z w64 d ≡ neg_ℤ (pos d)
  minus_is h = ap (λ (y : ℤ). pos 0 -ℤ y) (to_z_pos w64 d h) ∙ +ℤ_idl (neg_ℤ (pos d))

  pub at-minus : z -ℤ o ≡ neg_ℤ (pos d) → d ≤ 10000 → Some (rd (pos 0 -ℤ to_z w64 d)) ≡ coordinate_of (some z) o
  at-minus e h =
      ap Some (ap rd (minus_is (omega arith)) ∙ rd-small (neg_ℤ (pos d)) (omega (arith, size-minus d))) ∙ near z o (neg_ℤ (pos d)) e (omega (arith, size-minus d))

pub minus_fits : (d : ℕ) → d < 2 ^ 63 → SFits w64 (pos 0 -ℤ to_z w64 d)
minus_fits d h = rw (minus_is (pos 0) (pos 0) d h) (size_fits (neg_ℤ (pos d)) (omega (arith, size-minus d)))

-- ---- the four differences

module _ (n a : ℕ) where
  pub diff_low : n < a → pos n -ℤ pos a ≡ neg_ℤ (pos (a - n))
  diff_low h = rep_eq (nat n ⊞ neg (nat a)) (neg (nat (a - n))) (omega arith)

  pub diff_high : a ≤ n → pos n -ℤ pos a ≡ pos (n - a)
  diff_high h = rep_eq (nat n ⊞ neg (nat a)) (nat (n - a)) (omega arith)

  pub sum-up : pos n -ℤ neg_ℤ (pos a) ≡ pos (n + a)
  sum-up = rep_eq (nat n ⊞ neg (neg (nat a))) (nat (n + a)) (omega arith)

  pub sum-down : neg_ℤ (pos n) -ℤ pos a ≡ neg_ℤ (pos (n + a))
  sum-down = rep_eq (neg (nat n) ⊞ neg (nat a)) (neg (nat (n + a))) (omega arith)

  both-minus : pos a -ℤ pos n ≡ neg_ℤ (pos n) -ℤ neg_ℤ (pos a)
  both-minus = rep_eq (nat a ⊞ neg (nat n)) (neg (nat n) ⊞ neg (neg (nat a))) (omega arith)

-- ---- the four ways of a whole number less the origin

module _ (minus : Bool) (n a : ℕ) (o : ℤ) (f : SFits w64 o) (e : a ≡ size_of (rd o)) (r : Option ℤ) where
  size_is : a ≡ size_of o
  size_is = e ∙ ap size_of (to_z-of_z w64 o f)

  neg_is : lt_z (rd o) (pos 0) ≡ true → o ≡ neg_ℤ (pos a)
  unfolding size_of
  neg_is l = let k = below-zero w64 o f l in k ∙ ap (λ (y : ℕ). neg_ℤ (pos y)) (sym (size_is ∙ ap size_of k))

  pos_is : lt_z (rd o) (pos 0) ≡ false → o ≡ pos a
  pos_is l = not-below w64 o f l ∙ ap pos (sym size_is)

  pub way_one : lt_z (rd o) (pos 0) ≡ true → minus ≡ true → r ≡ coordinate_of (some (pos a)) (pos n) → r ≡ coordinate_of (some (signed minus n)) o
  unfolding signed
  way_one l m g =
      g ∙ same_coordinate (pos a) (pos n) (neg_ℤ (pos n)) (neg_ℤ (pos a)) (both-minus n a)
      ∙ ap₂ (λ (b : Bool) (q : ℤ). coordinate_of (some (signed b n)) q) (sym m) (sym (neg_is l))

  pub way_two : lt_z (rd o) (pos 0) ≡ true → minus ≡ false → r ≡ coordinate_of (some (pos n)) (neg_ℤ (pos a)) → r ≡ coordinate_of (some (signed minus n)) o
  unfolding signed
  way_two l m g = g ∙ ap₂ (λ (b : Bool) (q : ℤ). coordinate_of (some (signed b n)) q) (sym m) (sym (neg_is l))

  pub way_three : lt_z (rd o) (pos 0) ≡ false → minus ≡ true → r ≡ coordinate_of (some (neg_ℤ (pos n))) (pos a) → r ≡ coordinate_of (some (signed minus n)) o
  unfolding signed
  way_three l m g = g ∙ ap₂ (λ (b : Bool) (q : ℤ). coordinate_of (some (signed b n)) q) (sym m) (sym (pos_is l))

  pub way_four : lt_z (rd o) (pos 0) ≡ false → minus ≡ false → r ≡ coordinate_of (some (pos n)) (pos a) → r ≡ coordinate_of (some (signed minus n)) o
  unfolding signed
  way_four l m g = g ∙ ap₂ (λ (b : Bool) (q : ℤ). coordinate_of (some (signed b n)) q) (sym m) (sym (pos_is l))
