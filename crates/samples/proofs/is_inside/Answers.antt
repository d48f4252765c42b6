-- `samples::is_inside` meets its contract. Assumes nothing.
use mathlib.Core.Path.{refl}
use Rattle.samples.specs.Sides.{inside}
use Rattle.samples.proofs.is_inside.Goals as goal

pub returns : goal.returns
unfolding inside
returns c = refl
