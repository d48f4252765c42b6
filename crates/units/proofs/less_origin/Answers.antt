-- `units::less_origin` meets its contract. Assumes nothing.
use Rattle.units.proofs.Coordinates.{way_one, way_two, way_three, way_four}
use Rattle.units.proofs.less_origin.Goals as goal

pub returns-then-minus : goal.returns-then-minus
returns-then-minus c = way_one c.args.minus c.args.n _ c.args.o c.ranges.o c.size_of-a.ensures _ c.if-o-lt0.true c.if-minus.true c.gap.ensures

pub returns-then-o-lt0 : goal.returns-then-o-lt0
returns-then-o-lt0 c = way_two c.args.minus c.args.n _ c.args.o c.ranges.o c.size_of-a.ensures _ c.if-o-lt0.true c.if-minus.false c.above.ensures

pub returns-then-minus-2 : goal.returns-then-minus-2
returns-then-minus-2 c = way_three c.args.minus c.args.n _ c.args.o c.ranges.o c.size_of-a.ensures _ c.if-o-lt0.false c.if-minus-2.true c.below.ensures

pub returns : goal.returns
returns c = way_four c.args.minus c.args.n _ c.args.o c.ranges.o c.size_of-a.ensures _ c.if-o-lt0.false c.if-minus-2.false c.gap-2.ensures
