-- `units::below` meets its contract. Assumes nothing.
use Rattle.std.proofs.Common.{◌+◌, pos, neg_ℤ, arith}
use Rattle.units.proofs.Coordinates.{minus_fits, at-minus, far_minus, sum-down}
use Rattle.units.proofs.below.Goals as goal

pub overflow_sub-result : goal.overflow_sub-result
overflow_sub-result c = minus_fits (c.args.n + c.args.a) (omega arith)

pub returns-then-a-n : goal.returns-then-a-n
returns-then-a-n c = at-minus (neg_ℤ (pos c.args.n)) (pos c.args.a) (c.args.n + c.args.a) (sum-down c.args.n c.args.a) (omega arith)

pub returns : goal.returns
returns c = far_minus (neg_ℤ (pos c.args.n)) (pos c.args.a) (c.args.n + c.args.a) (sum-down c.args.n c.args.a) (omega arith)
