-- Samples that are not finite count as missing: of what is finite or missing already, nothing changes. Assumes nothing.
use Rattle.std.specs.Prelude.{Option, None, Some}
use mathlib.Core.Path.{◌≡◌, refl}
use mathlib.Core.Bool.{Bool, true, false, cond}
use lib.Ieee.{Float}
use Rattle.samples.specs.Sides.{finite, when_finite, known}

-- a finite value is taken as it is
pub known-finite : (x : Float) → finite x ≡ true → known (Some x) ≡ Some x
unfolding known when_finite
known-finite x f = rw f

-- asked twice, it is the same
pub known_twice : (x : Option Float) → known (known x) ≡ known x
unfolding known when_finite
known_twice None = refl
known_twice (Some x) = by (finite x) refl
  where
    by : (b : Bool) → finite x ≡ b → known (cond b (Some x) None) ≡ cond b (Some x) None
    by true f = rw f
    by false f = refl
