-- `units::above` meets its contract. Assumes nothing.
use Rattle.std.proofs.Common.{◌+◌, pos, neg_ℤ, arith}
use Rattle.units.proofs.Coordinates.{at-plus, far_plus, sum-up}
use Rattle.units.proofs.above.Goals as goal

pub returns-then-a-n : goal.returns-then-a-n
returns-then-a-n c = at-plus (pos c.args.n) (neg_ℤ (pos c.args.a)) _ (sum-up c.args.n c.args.a) (omega arith)

pub returns : goal.returns
returns c = far_plus (pos c.args.n) (neg_ℤ (pos c.args.a)) (c.args.n + c.args.a) (sum-up c.args.n c.args.a) (omega arith)
