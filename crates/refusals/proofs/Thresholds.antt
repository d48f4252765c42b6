-- The thresholds that are granted: 0.0 and -0.0 are outside for each of them. Assumes nothing.
use mathlib.Core.Path.{◌≡◌, refl}
use mathlib.Core.Bool.{Bool, true, false, not, ◌||◌, false≢true}
use Prim.Native.Nat.{ℕ, ◌+◌}
use native.Mathlib.Nat.{zero-mul}
use native.Mathlib.Omega.{arith}
use borrow.Author.Tests.{eqb-true, le-ltb}
use lib.Dec.{eqb}
use lib.Ieee.{Float, nan, inf, fin, neg, lt, eq, le, below, level, of_bits}
use Rattle.laws.proofs.Bools.{and-apart}
use Rattle.samples.specs.Sides.{nought, inside}
use Rattle.refusals.specs.Refusals.{inside_ok}

-- nothing, with either sign, is not below the negative of what it does not exceed
nothing : (s : Bool) (a b : ℕ) → a ≡ 0 → below false a s b || level false a s b ≡ true → (below false a (not s) b ≡ false) × (below true a (not s) b ≡ false)
nothing false a b z e = (refl, le-ltb b a (omega arith))
nothing true a b z e =
    let p : a ≡ b = eqb-true a b (and-apart (eqb a b) (false || eqb a 0) e).0 in
    (le-ltb a b (omega arith), le-ltb 0 (a + b) (omega arith))

pub noughts_outside : (h : Float) → inside_ok h ≡ true → (inside nought h ≡ false) × (inside (neg nought) h ≡ false)
unfolding inside_ok inside le lt eq neg of_bits
noughts_outside nan e = absurd (false≢true e)
noughts_outside (inf true) e = absurd (false≢true e)
noughts_outside (inf false) e = (refl, refl)
noughts_outside (fin s m k) e = nothing s _ _ (rw zero-mul refl) (and-apart (le nought (fin s m k)) _ e).0
