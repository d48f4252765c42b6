-- `points::float_of_bits` meets its contract. Assumes nothing.
use borrow.Author.Tests.{le-ltb, lt-ltb}
use mathlib.Core.Path.{sym, subst, ◌∙◌}
use mathlib.Core.Bool.{Bool, not}
use lib.Dec.{T}
use lib.Ieee.{binary64, of_bits}
use lib.Ieee.Bits.{nan_bits_above, nan_bits_is}
use Rattle.points.proofs.Bits.{only_nan, zero_over_zero}
use Rattle.points.proofs.float_of_bits.Goals as goal

pub returns-then-n-gt9218868437227405312 : goal.returns-then-n-gt9218868437227405312
returns-then-n-gt9218868437227405312 c = let n = c.args.n in
    zero_over_zero
    ∙ sym (only_nan (of_bits binary64 n) (subst T (sym (sym (nan_bits_is binary64 n) ∙ nan_bits_above binary64 n ∙ lt-ltb _ _ c.if-n-gt9218868437227405312.true)) tt))

pub float_from_bits-result : goal.float_from_bits-result
float_from_bits-result c = subst (λ (b : Bool). T (not b)) (sym (nan_bits_above binary64 c.args.n ∙ le-ltb _ _ c.if-n-gt9218868437227405312.false)) tt
