-- `points::no_points` meets its contract. Assumes nothing.
use mathlib.Core.Path.{refl}
use Rattle.points.proofs.no_points.Goals as goal

pub returns : goal.returns
returns c = refl
