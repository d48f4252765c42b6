-- Sizes of sums and products of integers, what fits a width, and what the machine reads back of it. Assumes nothing.
use mathlib.Core.Path.{◌≡◌, refl, sym, ap, ap₂, ◌∙◌, subst}
use mathlib.Core.Bool.{true, false, true≢false, false≢true}
use Prim.Native.Nat.{ℕ, zero, suc, ◌+◌, ◌*◌, ◌^◌, ◌≤◌, ◌<◌}
use native.Mathlib.Nat.{mul-le-mul, le_trans}
use native.Mathlib.Omega.{arith}
use lib.Dec.{T, ltb→lt}
use lib.IntN.{ℤ, pos, negsuc, neg_ℤ, nat_abs, ◌+ℤ◌, ◌-ℤ◌, ◌*ℤ◌}
use lib.Signed.{lt_z, non_neg, mag}
use borrow.Author.Tests.{le-ltb}
use mir.Syntax.{Width, w8, w16, w32, w64, w128}
use mir.Val.{Fits, SFits, bits, hbits, to_z, of_z}
use mir.ValLaws.{to_z-of_z}
use Rattle.laws.specs.Ints.{size_of}
use Rattle.laws.proofs.Ints.{Rep, above, under, ‹◌›, nat, minus-suc, ◌⊞◌, ◌⊠◌, neg, rep_eq}

-- the size by the two parts
parts : (z : ℤ) → size_of z ≡ above z + under z
unfolding size_of above under
parts (pos n) = omega arith
parts (negsuc n) = omega arith

-- a difference of naturals is no larger than their sum
rep_size : (z : ℤ) (a b : ℕ) → Rep z a b → size_of z ≤ a + b
unfolding size_of above under
rep_size (pos n) a b r = omega (arith, r.is)
rep_size (negsuc n) a b r = omega (arith, r.is)

pub size_neg : (z : ℤ) → size_of (neg_ℤ z) ≡ size_of z
unfolding size_of
size_neg (pos zero) = refl
size_neg (pos (suc n)) = refl
size_neg (negsuc n) = refl

pub size-add : (x y : ℤ) → size_of (x +ℤ y) ≤ size_of x + size_of y
size-add x y = omega (arith, rep_size (x +ℤ y) _ _ (‹ x › ⊞ ‹ y ›), parts x, parts y)

pub size-sub : (x y : ℤ) → size_of (x -ℤ y) ≤ size_of x + size_of y
size-sub x y = omega (arith, rep_size (x -ℤ y) _ _ (‹ x › ⊞ neg ‹ y ›), parts x, parts y)

size-mul : (x y : ℤ) → size_of (x *ℤ y) ≤ size_of x * size_of y
size-mul x y = subst (λ (k : ℕ). size_of (x *ℤ y) ≤ k) (ap₂ ◌*◌ (sym (parts x)) (sym (parts y))) (omega (arith, rep_size (x *ℤ y) _ _ (‹ x › ⊠ ‹ y ›)))

pub mul_most : (x y : ℤ) (a b : ℕ) → size_of x ≤ a → size_of y ≤ b → size_of (x *ℤ y) ≤ a * b
mul_most x y a b h k = le_trans (size-mul x y) (mul-le-mul h k)

-- ---- any width

-- a number's bits as the machine reads them
abbrev pub read : Width → ℤ → ℤ
read w z = to_z w (of_z w z)

-- an unsigned number has one bit more for its size
halves : (w : Width) → (2 ^ bits w ≡ 2 * 2 ^ hbits w) × (0 < 2 ^ hbits w)
halves w8 = (refl, omega arith)
halves w16 = (refl, omega arith)
halves w32 = (refl, omega arith)
halves w64 = (refl, omega arith)
halves w128 = (refl, ltb→lt 0 (2 ^ 127) tt)

module _ (w : Width) where
  -- what is small fits, and what fits is at most so large
  pub small_fits : (z : ℤ) → size_of z < 2 ^ hbits w → SFits w z
  unfolding size_of
  small_fits (pos n) h = record { sfits = h }
  small_fits (negsuc n) h = record { sfits = omega arith }

  pub fits_most : (z : ℤ) → SFits w z → size_of z ≤ 2 ^ hbits w
  unfolding size_of
  fits_most (pos n) f = omega (arith, f.sfits)
  fits_most (negsuc n) f = omega (arith, f.sfits)

  pub read_small : (z : ℤ) → size_of z < 2 ^ hbits w → read w z ≡ z
  read_small z h = to_z-of_z w z (small_fits z h)

  -- sums and differences of small numbers: they fit, and they are what they are
  module _ (a b : ℤ) (h : size_of a + size_of b < 2 ^ hbits w) where
    pub plus_fits : SFits w (read w a +ℤ read w b)
    plus_fits = rw (read_small a (omega arith), read_small b (omega arith)) (small_fits (a +ℤ b) (omega (arith, size-add a b)))

    pub plus-read : read w (read w a +ℤ read w b) ≡ a +ℤ b
    plus-read = rw (read_small a (omega arith), read_small b (omega arith)) (read_small (a +ℤ b) (omega (arith, size-add a b)))

    pub minus_fits : SFits w (read w a -ℤ read w b)
    minus_fits = rw (read_small a (omega arith), read_small b (omega arith)) (small_fits (a -ℤ b) (omega (arith, size-sub a b)))

    pub minus-read : read w (read w a -ℤ read w b) ≡ a -ℤ b
    minus-read = rw (read_small a (omega arith), read_small b (omega arith)) (read_small (a -ℤ b) (omega (arith, size-sub a b)))

  -- The size of a number, of the least one too: below zero it is taken as (-1 - z) + 1.
  pub below-zero : (z : ℤ) → SFits w z → lt_z (read w z) (pos 0) ≡ true → z ≡ negsuc (mag z)
  below-zero (pos n) f l = absurd (false≢true (sym (le-ltb n 0 (omega arith)) ∙ sym (ap (λ (y : ℤ). lt_z y (pos 0)) (to_z-of_z w (pos n) f)) ∙ l))
  below-zero (negsuc n) f l = refl

  pub not-below : (z : ℤ) → SFits w z → lt_z (read w z) (pos 0) ≡ false → z ≡ pos (size_of z)
  unfolding size_of
  not-below (pos n) f l = refl
  not-below (negsuc n) f l = absurd (true≢false (sym (ap (λ (y : ℤ). lt_z y (pos 0)) (to_z-of_z w (negsuc n) f)) ∙ l))

  module _ (z : ℤ) (f : SFits w z) where
    mag_lt : mag z < 2 ^ hbits w
    mag_lt = f.sfits

    module _ (l : lt_z (read w z) (pos 0) ≡ true) where
      z_is : z ≡ negsuc (mag z)
      z_is = below-zero z f l

      turned : negsuc 0 -ℤ read w z ≡ pos (mag z)
      turned =
          ap (λ (y : ℤ). negsuc 0 -ℤ y) (to_z-of_z w z f ∙ z_is)
          ∙ rep_eq (minus-suc 0 ⊞ neg (minus-suc (mag z))) (nat (mag z)) (omega arith)

      pub turned_fits : SFits w (negsuc 0 -ℤ read w z)
      turned_fits = rw turned (record { sfits = mag_lt })

      turned_read : read w (negsuc 0 -ℤ read w z) ≡ pos (mag z)
      turned_read = to_z-of_z w (negsuc 0 -ℤ read w z) turned_fits ∙ turned

      pub turned_cast : T (non_neg (read w (negsuc 0 -ℤ read w z))) × Fits w (nat_abs (read w (negsuc 0 -ℤ read w z)))
      turned_cast = subst (λ (y : ℤ). T (non_neg y) × Fits w (nat_abs y)) (sym turned_read) (tt, record { fits = omega (arith, mag_lt, (halves w).0) })

      pub turned_room : Fits w (nat_abs (read w (negsuc 0 -ℤ read w z)) + 1)
      turned_room = subst (λ (y : ℤ). Fits w (nat_abs y + 1)) (sym turned_read) (record { fits = omega (arith, mag_lt, (halves w).0, (halves w).1) })

      pub turned_size : nat_abs (read w (negsuc 0 -ℤ read w z)) + 1 ≡ size_of z
      unfolding size_of
      turned_size = ap (λ (y : ℤ). nat_abs y + 1) turned_read ∙ (omega arith ∙ ap size_of (sym z_is))

    module _ (l : lt_z (read w z) (pos 0) ≡ false) where
      read_is : read w z ≡ pos (size_of z)
      read_is = to_z-of_z w z f ∙ not-below z f l

      pub high_cast : T (non_neg (read w z)) × Fits w (nat_abs (read w z))
      high_cast = subst (λ (y : ℤ). T (non_neg y) × Fits w (nat_abs y)) (sym read_is) (tt, record { fits = omega (arith, fits_most z f, (halves w).0, (halves w).1) })

      pub high_size : nat_abs (read w z) ≡ size_of z
      high_size = ap nat_abs read_is

-- ---- 64 bits

pub size_fits : (z : ℤ) → size_of z < 2 ^ 63 → SFits w64 z
size_fits z h = small_fits w64 z h

pub fits_size : (z : ℤ) → SFits w64 z → size_of z ≤ 2 ^ 63
fits_size z f = fits_most w64 z f

abbrev pub rd : ℤ → ℤ
rd z = read w64 z

pub rd-small : (z : ℤ) → size_of z < 2 ^ 63 → rd z ≡ z
rd-small z h = read_small w64 z h

pub rd-le : (z : ℤ) (n : ℕ) → n < 2 ^ 63 → size_of z ≤ n → size_of (rd z) ≤ n
rd-le z n l h = subst (λ (y : ℤ). size_of y ≤ n) (sym (rd-small z (omega arith))) h

-- sums, differences and products of small numbers: they fit, and they are what they are
module _ (a b : ℤ) (m n : ℕ) (h : size_of a ≤ m) (k : size_of b ≤ n) (l : m < 2 ^ 63) (l' : n < 2 ^ 63) where
  la : size_of a < 2 ^ 63
  la = omega arith

  lb : size_of b < 2 ^ 63
  lb = omega arith

  pub mul_ok : m * n < 2 ^ 63 → SFits w64 (rd a *ℤ rd b)
  mul_ok s = rw (rd-small a la, rd-small b lb) (size_fits (a *ℤ b) (omega (arith, mul_most a b m n h k)))

  pub mul_is : m * n < 2 ^ 63 → rd (rd a *ℤ rd b) ≡ a *ℤ b
  mul_is s = rw (rd-small a la, rd-small b lb) (rd-small (a *ℤ b) (omega (arith, mul_most a b m n h k)))

  pub sub_ok : m + n < 2 ^ 63 → SFits w64 (rd a -ℤ rd b)
  sub_ok s = minus_fits w64 a b (omega arith)

  pub sub_is : m + n < 2 ^ 63 → rd (rd a -ℤ rd b) ≡ a -ℤ b
  sub_is s = minus-read w64 a b (omega arith)

  pub add_ok : m + n < 2 ^ 63 → SFits w64 (rd a +ℤ rd b)
  add_ok s = plus_fits w64 a b (omega arith)

  pub add_is : m + n < 2 ^ 63 → rd (rd a +ℤ rd b) ≡ a +ℤ b
  add_is s = plus-read w64 a b (omega arith)
