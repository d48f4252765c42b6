-- `points::with_point` meets its contract. Assumes nothing.
use Rattle.points.specs.Means.{more}
use mathlib.Core.Path.{refl}
use Rattle.points.proofs.with_point.Goals as goal

pub returns : goal.returns
unfolding more
returns c = refl
