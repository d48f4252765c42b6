-- `samples::mark_fraction` meets its contract. Assumes nothing.
use mathlib.Core.Path.{refl}
use Rattle.samples.specs.Sides.{mark_fraction}
use Rattle.samples.proofs.mark_fraction.Goals as goal

pub returns : goal.returns
unfolding mark_fraction
returns c = refl
