-- `units::coordinate_of` meets its contract. Assumes nothing.
use Rattle.laws.specs.Ints.{signed}
use Rattle.units.proofs.Rounding.{above_far, below_turned, below-whole, below_far, zero-whole, other_far, read_back}
use lib.Ieee.{binary64, mul, of_bits}
use Rattle.std.proofs.Common.{true, false, T, sym, subst}
use Rattle.units.proofs.coordinate_of.Goals as goal

pub nearest_whole-n-requires : goal.nearest_whole-n-requires
unfolding of_bits
nearest_whole-n-requires c = record { above_zero = subst T (sym c.if-y.true) tt; below_limit = subst T (sym c.if-y-2.true) tt }

pub returns-then-y-2 : goal.returns-then-y-2
unfolding of_bits signed
returns-then-y-2 c = read_back false _ c.args.o c.ranges.o c.nearest_whole-n.ensures c.less_origin.ensures

pub returns-then-y : goal.returns-then-y
unfolding of_bits
returns-then-y c = above_far (mul binary64 c.args.x c.args.scale) c.args.o c.ranges.o c.if-y.true c.if-y-2.false

pub nearest_whole-n-requires-then-z : goal.nearest_whole-n-requires-then-z
unfolding of_bits
nearest_whole-n-requires-then-z c = record { above_zero = subst T (sym (below_turned (mul binary64 c.args.x c.args.scale) c.if-y-3.true)) tt; below_limit = subst T (sym c.if-z.true) tt }

pub returns-then-z : goal.returns-then-z
unfolding of_bits
returns-then-z c = read_back true _ c.args.o c.ranges.o (below-whole (mul binary64 c.args.x c.args.scale) _ c.if-y-3.true c.nearest_whole-n-then-z.ensures) c.less_origin-then-z.ensures

pub returns-then-y-3 : goal.returns-then-y-3
unfolding of_bits
returns-then-y-3 c = below_far (mul binary64 c.args.x c.args.scale) c.args.o c.ranges.o c.if-y-3.true c.if-z.false

pub returns-then-y-4 : goal.returns-then-y-4
unfolding of_bits
returns-then-y-4 c = read_back false 0 c.args.o c.ranges.o (zero-whole (mul binary64 c.args.x c.args.scale) c.if-y-4.true) c.less_origin-then-y-4.ensures

pub returns : goal.returns
unfolding of_bits
returns c = other_far (mul binary64 c.args.x c.args.scale) c.args.o c.if-y.false c.if-y-3.false c.if-y-4.false
