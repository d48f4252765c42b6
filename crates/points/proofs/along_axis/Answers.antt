-- `points::along_axis` meets its contract. Assumes nothing.
use Rattle.points.specs.Positions.{along}
use mathlib.Core.Path.{ap}
use mir.Syntax.{w64}
use mir.ValLaws.{to_z-of_z}
use Rattle.points.proofs.along_axis.Goals as goal

pub returns : goal.returns
unfolding along
returns c = ap (along c.args.origin c.args.step) (to_z-of_z w64 c.args.i c.ranges.i)
