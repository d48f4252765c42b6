-- `tables::apart` meets its contract. Assumes nothing.
use native.Mathlib.Omega.{arith}
use mir.Syntax.{w8}
use Rattle.laws.proofs.Sizes.{minus_fits, minus-read}
use Rattle.tables.proofs.apart.Goals as goal

pub overflow_sub-result : goal.overflow_sub-result
overflow_sub-result c = minus_fits w8 c.args.a c.args.b (omega (arith, c.requires.0, c.requires.1))

pub returns : goal.returns
returns c = minus-read w8 c.args.a c.args.b (omega (arith, c.requires.0, c.requires.1))
