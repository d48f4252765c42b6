-- `units::gap` meets its contract. Assumes nothing.
use Rattle.std.proofs.Common.{◌-◌, pos, arith}
use Rattle.units.proofs.Coordinates.{minus_fits, at-minus, far_minus, at-plus, far_plus, diff_low, diff_high}
use Rattle.units.proofs.gap.Goals as goal

pub overflow_sub-result : goal.overflow_sub-result
overflow_sub-result c = minus_fits (c.args.a - c.args.n) (omega arith)

pub returns-then-d-le-MOST : goal.returns-then-d-le-MOST
returns-then-d-le-MOST c = at-minus (pos c.args.n) (pos c.args.a) _ (diff_low c.args.n c.args.a c.if-n-a.true) c.if-d-le-MOST.true

pub returns-then-n-a : goal.returns-then-n-a
returns-then-n-a c = far_minus (pos c.args.n) (pos c.args.a) _ (diff_low c.args.n c.args.a c.if-n-a.true) c.if-d-le-MOST.false

pub returns-then-d-le-MOST-2 : goal.returns-then-d-le-MOST-2
returns-then-d-le-MOST-2 c = at-plus (pos c.args.n) (pos c.args.a) _ (diff_high c.args.n c.args.a c.if-n-a.false) c.if-d-le-MOST-2.true

pub returns : goal.returns
returns c = far_plus (pos c.args.n) (pos c.args.a) _ (diff_high c.args.n c.args.a c.if-n-a.false) c.if-d-le-MOST-2.false
