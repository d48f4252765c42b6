-- `units::nearest_whole` meets its contract. Assumes nothing.
use Rattle.std.proofs.Common.{ℕ, Bool, not, T, pos, sym, ap, ◌∙◌, subst}
use mathlib.Core.Option.{some}
use lib.Ieee.{binary64, of_bits, fits}
use Rattle.units.proofs.Nearest.{low_way, above-minus, high_way}
use Rattle.units.proofs.nearest_whole.Goals as goal

pub float_to_int-result : goal.float_to_int-result
unfolding of_bits
float_to_int-result c = (low_way c.args.x c.requires.above_zero (subst T (sym c.if-x.true) tt)).fine

pub returns-then-x : goal.returns-then-x
unfolding of_bits
returns-then-x c = (low_way c.args.x c.requires.above_zero (subst T (sym c.if-x.true) tt)).is

pub truncating_f64_to_u64-requires : goal.truncating_f64_to_u64-requires
truncating_f64_to_u64-requires c = record { lower_bound = above-minus c.args.x c.requires.above_zero; upper_bound = c.requires.below_limit }

pub returns : goal.returns
unfolding of_bits
returns c = high_way c.args.x (let the_held : T (fits binary64 c.args.x) = subst T (sym c.well_formed.0.1) tt in the_held) c.requires.above_zero (subst (λ (b : Bool). T (not b)) (sym c.if-x.false) tt) c.requires.below_limit ∙ ap (λ (n : ℕ). some (pos n)) (sym c.truncating_f64_to_u64.ensures)
