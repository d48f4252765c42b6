-- `points::bits_of_float` meets its contract. Assumes nothing.
use mathlib.Core.Path.{sym, ap, ◌∙◌}
use lib.Ieee.{binary64, to_bits}
use lib.Ieee.Compare.{differs_from_itself}
use Rattle.laws.proofs.Bools.{true_T}
use Rattle.points.proofs.Bits.{nan_pattern, same_number}
use Rattle.points.proofs.bits_of_float.Goals as goal

pub returns-then-x : goal.returns-then-x
returns-then-x c = sym (ap (to_bits binary64) (differs_from_itself c.args.x (true_T _ c.if-x.true)) ∙ nan_pattern)

pub float_to_bits-result : goal.float_to_bits-result
float_to_bits-result c = same_number c.args.x c.if-x.false
