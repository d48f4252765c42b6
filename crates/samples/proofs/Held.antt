-- A held fraction: it lies from 0 to 1, is the free one where that does, and is on the same side of 0.5. So whether a crossing is near does not depend on which is compared. Assumes nothing.
use Rattle.std.specs.Prelude.{Option, None, Some}
use Prim.Native.Nat.{ℕ, ◌+◌, ◌*◌, ◌≤◌, ◌<◌}
use native.Mathlib.Omega.{arith}
use mathlib.Core.Path.{◌≡◌, refl, sym}
use mathlib.Core.Bool.{Bool, true, false, beq, cond, false≢true}
use lib.IntN.{pos, negsuc}
use lib.Ieee.{Float, nan, inf, fin, up, down, lt, le, eq, of_bits, is_nan}
use lib.Ieee.Fits.{down_pos}
use borrow.Author.Tests.{ltb-true, lt-ltb, le-ltb}
use Rattle.laws.proofs.Bools.{T_true, true_T}
use Rattle.laws.proofs.Floats.{not-lt-le, le_not_lt}
use Rattle.samples.specs.Sides.{nought, half, one, hold, mark_fraction, point_fraction, inside, crossing, near, crosses, is_near}
use Rattle.samples.specs.Held.{held_crossing}

-- ---- the three as m * 2 ^ e
pub nought-is : nought ≡ fin false 0 (pos 0)
unfolding of_bits
nought-is = refl

pub half_is : half ≡ fin false 1 (negsuc 0)
unfolding of_bits
half_is = refl

pub one-is : one ≡ fin false 1 (pos 0)
unfolding of_bits
one-is = refl

-- ---- what is below 0 is below 0.5, and what is above 1 is not
below_half : (t : Float) → lt t (fin false 0 (pos 0)) ≡ true → lt t (fin false 1 (negsuc 0)) ≡ true
unfolding lt
below_half nan h = h
below_half (inf s) h = h
below_half (fin true m e) h = lt-ltb 0 _ (more (m * up e * 2) (down e) (down_pos e))
  where
    more : (a d : ℕ) → 0 < d → 0 < a + 1 * d
    more a d h = omega arith
below_half (fin false m e) h = absurd (none (m * up e * 1) (down e) (ltb-true _ _ h))
  where
    none : (a d : ℕ) → a < 0 * d → ⊥
    none a d h = omega arith

above_half : (t : Float) → lt (fin false 1 (pos 0)) t ≡ true → lt t (fin false 1 (negsuc 0)) ≡ false
unfolding lt
above_half nan h = refl
above_half (inf true) h = absurd (false≢true h)
above_half (inf false) h = refl
above_half (fin true m e) h = absurd (false≢true h)
above_half (fin false m e) h = le-ltb _ _ (less (m * up e) (down e) (ltb-true _ _ h))
  where
    less : (a d : ℕ) → 1 * d < a * 1 → 1 * d ≤ a * 2
    less a d h = omega arith

-- ---- on the same side of 0.5, a NaN and the infinities among them
pub hold-near : (t : Float) → lt (hold t) half ≡ lt t half
unfolding hold lt
hold-near t = rw (nought-is, one-is, half_is) (go (lt t (fin false 0 (pos 0))) (lt (fin false 1 (pos 0)) t) refl refl)
  where
    go : (p q : Bool) → lt t (fin false 0 (pos 0)) ≡ p → lt (fin false 1 (pos 0)) t ≡ q
        → lt (cond p (fin false 0 (pos 0)) (cond q (fin false 1 (pos 0)) t)) (fin false 1 (negsuc 0)) ≡ lt t (fin false 1 (negsuc 0))
    go true q i j = sym (below_half t i)
    go false true i j = sym (above_half t j)
    go false false i j = refl

-- ---- from 0 to 1
pub hold_range : (t : Float) → is_nan t ≡ false → (le nought (hold t) ≡ true) × (le (hold t) one ≡ true)
unfolding hold le lt eq is_nan
hold_range t n = rw (nought-is, one-is) (go (lt t (fin false 0 (pos 0))) (lt (fin false 1 (pos 0)) t) refl refl)
  where
    go : (p q : Bool) → lt t (fin false 0 (pos 0)) ≡ p → lt (fin false 1 (pos 0)) t ≡ q
        → (le (fin false 0 (pos 0)) (cond p (fin false 0 (pos 0)) (cond q (fin false 1 (pos 0)) t)) ≡ true)
        × (le (cond p (fin false 0 (pos 0)) (cond q (fin false 1 (pos 0)) t)) (fin false 1 (pos 0)) ≡ true)
    go true q i j = (refl, refl)
    go false true i j = (refl, refl)
    go false false i j = (T_true _ (not-lt-le t (fin false 0 (pos 0)) n refl i), T_true _ (not-lt-le (fin false 1 (pos 0)) t refl n j))

-- ---- unchanged where it is from 0 to 1, and where it is no number
pub hold-same : (t : Float) → le nought t ≡ true → le t one ≡ true → hold t ≡ t
unfolding hold
hold-same t a b = rw (le_not_lt nought t (true_T _ a), le_not_lt t one (true_T _ b))

pub hold_nan : hold nan ≡ nan
unfolding hold lt of_bits
hold_nan = refl

-- ---- so what asks of a fraction only on which side of 0.5 it is has one answer with either
pub held_by : {A : Type 0} (f : Option Float → A) → ((t : Float) → f (Some (hold t)) ≡ f (Some t)) → (a b h : Float) → f (held_crossing a b h) ≡ f (crossing a b h)
unfolding held_crossing crossing point_fraction
held_by f same a b h = go (beq (inside a h) (inside b h))
  where
    go : (p : Bool) → f (cond p None (Some (hold (mark_fraction a b)))) ≡ f (cond p None (Some (mark_fraction a b)))
    go true = refl
    go false = same (mark_fraction a b)

pub held-near : (a b h : Float) → near (held_crossing a b h) ≡ is_near a b h
unfolding is_near
held-near = held_by near hold-near

pub held-crosses : (a b h : Float) → crosses (held_crossing a b h) ≡ crosses (crossing a b h)
held-crosses = held_by crosses (λ t. refl)
