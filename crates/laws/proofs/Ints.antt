-- Integers as differences of naturals: z is a - b where `Rep z a b`. An identity over ℤ is then one over ℕ, which `omega` proves:
-- `rep_eq LEFT RIGHT (omega arith)`, with each side's `Rep` written as the side is, `‹ x ›` at a variable. Assumes nothing.
use mathlib.Core.Path.{◌≡◌, refl, sym, ap}
use mathlib.Core.Bool.{Bool, true, false, not, cond}
use Prim.Native.Nat.{ℕ, zero, suc, ◌+◌, ◌*◌, ◌-◌, ◌≤◌, ◌<◌}
use native.Mathlib.Omega.{arith}
use lib.Dec.{T, ltb, ltb→lt, nltb→le}
use lib.IntN.{ℤ, pos, negsuc, sub_ℕ, neg_ℤ, ◌+ℤ◌, ◌-ℤ◌, ◌*ℤ◌}
use lib.Signed.{lt_z}
use borrow.Author.Tests.{ltb-true, ltb-false}

-- the part above 0 and the part below
unfoldable pub above : ℤ → ℕ
above (pos n) = n
above (negsuc n) = 0

unfoldable pub under : ℤ → ℕ
under (pos n) = 0
under (negsuc n) = suc n

pub record Rep (z : ℤ) (a b : ℕ) : Type 0 where
  pub is : above z + b ≡ under z + a

pub ‹◌› : (z : ℤ) → Rep z (above z) (under z)
‹ z › = record { is = omega arith }

-- the numbers that are written out
pub nat : (n : ℕ) → Rep (pos n) n 0
unfolding above under
nat n = record { is = omega arith }

pub minus-suc : (n : ℕ) → Rep (negsuc n) 0 (suc n)
unfolding above under
minus-suc n = record { is = omega arith }

pub same_parts : (x y : ℤ) → above x + under y ≡ above y + under x → x ≡ y
unfolding above under
same_parts (pos a) (pos b) e = ap pos (omega arith)
same_parts (pos a) (negsuc b) e = absurd (omega arith)
same_parts (negsuc a) (pos b) e = absurd (omega arith)
same_parts (negsuc a) (negsuc b) e = ap negsuc (omega arith)

-- two integers that are the same difference are equal
pub rep_eq : {x y : ℤ} {a b c d : ℕ} → Rep x a b → Rep y c d → a + d ≡ c + b → x ≡ y
rep_eq {x} {y} r s e = same_parts x y (omega (arith, r.is, s.is))

-- and equal integers are the same difference
pub rep_same : {x y : ℤ} {a b c d : ℕ} → Rep x a b → Rep y c d → x ≡ y → a + d ≡ c + b
rep_same {x} {y} r s e = omega (arith, r.is, s.is, ap above e, ap under e)

pub rep_sub : (a b : ℕ) → Rep (sub_ℕ a b) a b
unfolding above under
rep_sub a b = go (ltb a b) (ltb→lt a b) (nltb→le a b)
  where
    go : (t : Bool) → (T t → a < b) → (T (not t) → b ≤ a) → Rep (cond t (negsuc (b - suc a)) (pos (a - b))) a b
    go true l r = record { is = omega (arith, l tt) }
    go false l r = record { is = omega (arith, r tt) }

pub neg : {x : ℤ} {a b : ℕ} → Rep x a b → Rep (neg_ℤ x) b a
unfolding above under
neg {x = pos zero} r = record { is = omega (arith, r.is) }
neg {x = pos (suc n)} r = record { is = omega (arith, r.is) }
neg {x = negsuc n} r = record { is = omega (arith, r.is) }

infixl 6 ◌⊞◌
pub ◌⊞◌ : {x y : ℤ} {a b c d : ℕ} → Rep x a b → Rep y c d → Rep (x +ℤ y) (a + c) (b + d)
unfolding above under
◌⊞◌ {x = pos m} {y = pos n} r s = record { is = omega (arith, r.is, s.is) }
◌⊞◌ {x = pos m} {y = negsuc n} r s = record { is = omega (arith, r.is, s.is, (rep_sub m (suc n)).is) }
◌⊞◌ {x = negsuc m} {y = pos n} r s = record { is = omega (arith, r.is, s.is, (rep_sub n (suc m)).is) }
◌⊞◌ {x = negsuc m} {y = negsuc n} r s = record { is = omega (arith, r.is, s.is) }

product : (x y : ℤ) → Rep (x *ℤ y) (above x * above y + under x * under y) (above x * under y + under x * above y)
unfolding above under
product (pos m) (pos n) = record { is = omega arith }
product (pos m) (negsuc n) = neg {x = pos (m * suc n)} (record { is = omega arith })
product (negsuc m) (pos n) = neg {x = pos (suc m * n)} (record { is = omega arith })
product (negsuc m) (negsuc n) = record { is = omega arith }

infixl 7 ◌⊠◌
pub ◌⊠◌ : {x y : ℤ} {a b c d : ℕ} → Rep x a b → Rep y c d → Rep (x *ℤ y) (a * c + b * d) (a * d + b * c)
◌⊠◌ {x} {y} {a} {b} r s =
    record {
      is = omega (arith, (product x y).is, ap (λ (k : ℕ). k * above y) r.is, ap (λ (k : ℕ). k * under y) r.is, ap (λ (k : ℕ). a * k) s.is, ap (λ (k : ℕ). b * k) s.is);
    }

-- ---- ring laws

module _ (x y z : ℤ) where
  pub mul_addℤ : x *ℤ (y +ℤ z) ≡ x *ℤ y +ℤ x *ℤ z
  mul_addℤ = rep_eq (‹ x › ⊠ (‹ y › ⊞ ‹ z ›)) (‹ x › ⊠ ‹ y › ⊞ ‹ x › ⊠ ‹ z ›) (omega arith)

  pub add_mulℤ : (x +ℤ y) *ℤ z ≡ x *ℤ z +ℤ y *ℤ z
  add_mulℤ = rep_eq ((‹ x › ⊞ ‹ y ›) ⊠ ‹ z ›) (‹ x › ⊠ ‹ z › ⊞ ‹ y › ⊠ ‹ z ›) (omega arith)

  pub mul_assocℤ : (x *ℤ y) *ℤ z ≡ x *ℤ (y *ℤ z)
  mul_assocℤ = rep_eq (‹ x › ⊠ ‹ y › ⊠ ‹ z ›) (‹ x › ⊠ (‹ y › ⊠ ‹ z ›)) (omega arith)

pub self_neg : (x : ℤ) → x ≡ neg_ℤ x → x ≡ pos 0
unfolding above
self_neg (pos zero) e = refl
self_neg (pos (suc n)) e = absurd (omega (arith, ap above e))
self_neg (negsuc n) e = absurd (omega (arith, ap above e))

-- ---- order

-- the test of order, by the two parts of each
pub less_parts : (x y : ℤ) → lt_z x y ≡ true → above x + under y < above y + under x
unfolding above under
less_parts (pos a) (pos b) e = omega (arith, ltb-true a b e)
less_parts (pos a) (negsuc b) e = let z : ◌≡◌ {A = ℕ} 0 1 = cc in omega arith
less_parts (negsuc a) (pos b) e = omega arith
less_parts (negsuc a) (negsuc b) e = omega (arith, ltb-true b a e)

pub not-less_parts : (x y : ℤ) → lt_z x y ≡ false → above y + under x ≤ above x + under y
unfolding above under
not-less_parts (pos a) (pos b) e = omega (arith, ltb-false a b e)
not-less_parts (pos a) (negsuc b) e = omega arith
not-less_parts (negsuc a) (pos b) e = let z : ◌≡◌ {A = ℕ} 0 1 = cc in omega arith
not-less_parts (negsuc a) (negsuc b) e = omega (arith, ltb-false b a e)

-- a difference that is known, by the parts
pub diff_parts : (a b z : ℤ) → b -ℤ a ≡ z → above z + (under b + above a) ≡ under z + (above b + under a)
diff_parts a b z e = rw (sym e) (‹ b › ⊞ neg ‹ a ›).is
