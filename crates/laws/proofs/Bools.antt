-- Laws of truth values: conjunctions taken apart, `bit`, and a test computed at all lists of truth values. Assumes nothing.
use mathlib.Core.Path.{◌≡◌, refl, sym}
use mathlib.Core.Bool.{Bool, true, false, ◌&&◌, ◌||◌, beq, true≢false, false≢true}
use mathlib.Core.List.{List, [], ◌∷◌}
use mathlib.Core.Logic.{◌⊎◌, inl, inr}
use Prim.Native.Nat.{ℕ, zero, suc, ◌≤◌, ◌+◌, ◌*◌}
use native.Mathlib.Omega.{arith}
use lib.Dec.{T, eqb}
use lib.ListN.{length}
use Rattle.laws.specs.Bools.{bit, Tells, all_bools}

-- ---- conjunctions

pub and_left : (a b : Bool) → T (a && b) → T a
and_left true b t = tt
and_left false b t = t

pub and_right : (a b : Bool) → T (a && b) → T b
and_right true b t = t
and_right false b t = absurd t

pub and_both : (a b : Bool) → T a → T b → T (a && b)
and_both true b s t = t
and_both false b s t = s

-- the same for equations
pub and_yes : {a b : Bool} → a ≡ true → b ≡ true → a && b ≡ true
and_yes p q = rw (p, q)

pub and-apart : (a b : Bool) → a && b ≡ true → (a ≡ true) × (b ≡ true)
and-apart true b e = (refl, e)
and-apart false b e = (e, absurd (false≢true e))

pub or_apart : (a b : Bool) → a || b ≡ true → (a ≡ true) ⊎ (b ≡ true)
or_apart true b e = inl refl
or_apart false b e = inr e

pub or-none : (a b : Bool) → a || b ≡ false → (a ≡ false) × (b ≡ false)
or-none true b e = absurd (true≢false e)
or-none false b e = (refl, e)

-- ---- equations

pub T_true : (a : Bool) → T a → a ≡ true
T_true true t = refl
T_true false t = absurd t

pub true_T : (a : Bool) → a ≡ true → T a
true_T true e = tt
true_T false e = absurd (false≢true e)

-- two truth values that follow from each other are equal
pub bool_ext : (a b : Bool) → (a ≡ true → b ≡ true) → (b ≡ true → a ≡ true) → a ≡ b
bool_ext true b f g = sym (f refl)
bool_ext false true f g = g refl
bool_ext false false f g = refl

-- a question has one answer
pub tells_unique : (P : Type 0) (a b : Bool) → Tells P a → Tells P b → a ≡ b
tells_unique P true true p q = refl
tells_unique P true false p q = absurd (q p)
tells_unique P false true p q = absurd (p q)
tells_unique P false false p q = refl

pub beq→eq : (a b : Bool) → T (beq a b) → a ≡ b
beq→eq true true t = refl
beq→eq true false t = absurd t
beq→eq false true t = absurd t
beq→eq false false t = refl

pub beq_sym : (a b : Bool) → beq a b ≡ beq b a
beq_sym true true = refl
beq_sym true false = refl
beq_sym false true = refl
beq_sym false false = refl

-- ---- numbers

pub bit_le : (b : Bool) → bit b ≤ 1
unfolding bit
bit_le true = omega arith
bit_le false = omega arith

pub bit_T : (b : Bool) → bit b ≡ 1 → T b
unfolding bit
bit_T true e = tt
bit_T false e = omega arith

pub bit-one : (b : Bool) → eqb (bit b) 1 ≡ b
unfolding bit
bit-one true = refl
bit-one false = refl

pub T-bit : (b : Bool) → T b → bit b ≡ 1
unfolding bit
T-bit true t = refl
T-bit false t = absurd t

-- of two that never hold together
pub bit_or : (a b : Bool) → (a ≡ true → b ≡ true → ⊥) → bit (a || b) ≡ bit a + bit b
unfolding bit
bit_or true true n = absurd (n refl refl)
bit_or true false n = refl
bit_or false b n = omega arith

-- of two that hold together
pub bit_and-le : (a b : Bool) → bit (a && b) ≤ bit a
unfolding bit
bit_and-le true true = omega arith
bit_and-le true false = omega arith
bit_and-le false b = omega arith

pub bit_and-part : (a b c : Bool) → bit a * bit (b && c) ≡ bit (a && b) * bit c
unfolding bit
bit_and-part true true c = refl
bit_and-part true false c = omega arith
bit_and-part false b c = omega arith

-- ---- a test at all lists of n truth values

pub bools_at : (n : ℕ) (p : List Bool → Bool) → T (all_bools n p) → (l : List Bool) → length l ≡ n → T (p l)
unfolding all_bools
bools_at zero p t [] e = t
bools_at zero p t (x ∷ l) e = absurd (omega arith)
bools_at (suc n) p t [] e = absurd (omega arith)
bools_at (suc n) p t (true ∷ l) e =
    bools_at n (λ k. p (true ∷ k)) (and_left (all_bools n (λ k. p (true ∷ k))) (all_bools n (λ k. p (false ∷ k))) t) l (omega arith)
bools_at (suc n) p t (false ∷ l) e =
    bools_at n (λ k. p (false ∷ k)) (and_right (all_bools n (λ k. p (true ∷ k))) (all_bools n (λ k. p (false ∷ k))) t) l (omega arith)
