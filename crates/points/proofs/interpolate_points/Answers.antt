-- `points::interpolate_points` meets its contract. Assumes nothing.
use Rattle.points.specs.EdgePoints.{interpolate}
use mathlib.Core.Path.{refl}
use Rattle.points.proofs.interpolate_points.Goals as goal

pub returns : goal.returns
unfolding interpolate
returns c = refl
