-- `samples::is_finite` meets its contract. Assumes nothing.
use mathlib.Core.Path.{◌≡◌, refl}
use mathlib.Core.Bool.{true, false, true≢false, false≢true}
use lib.Ieee.{Float, nan, inf, fin, lt, neg, div, of_bits}
use Rattle.samples.specs.Sides.{finite}
use Rattle.samples.proofs.is_finite.Goals as goal

below_top : (x : Float) → lt x (inf false) ≡ true → lt (neg (inf false)) x ≡ finite x
unfolding lt neg finite
below_top nan e = refl
below_top (inf true) e = refl
below_top (inf false) e = absurd (false≢true e)
below_top (fin s m k) e = refl

not-below : (x : Float) → lt x (inf false) ≡ false → false ≡ finite x
unfolding lt finite
not-below nan e = refl
not-below (inf true) e = absurd (true≢false e)
not-below (inf false) e = refl
not-below (fin s m k) e = absurd (true≢false e)

pub returns-then-x-top : goal.returns-then-x-top
unfolding div of_bits
returns-then-x-top c = below_top c.args.x c.if-x-top.true

pub returns-else-x-top : goal.returns-else-x-top
unfolding div of_bits
returns-else-x-top c = not-below c.args.x c.if-x-top.false
