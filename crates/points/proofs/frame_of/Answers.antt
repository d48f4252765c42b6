-- `points::frame_of` meets its contract. Assumes nothing.
use Rattle.points.specs.Positions.{frame_of}
use mathlib.Core.Path.{refl}
use Rattle.points.proofs.frame_of.Goals as goal

pub returns : goal.returns
unfolding frame_of
returns c = refl
