-- `decimals::put_decimal` meets its contract. Assumes nothing.
use mathlib.Core.Path.{ap}
use native.Mathlib.Omega.{arith}
use lib.ListN.{length}
use Rattle.decimals.proofs.Printing.{decimal-whole, decimal-pointed}
use Rattle.decimals.proofs.put_decimal.Goals as goal

pub put_dec-requires : goal.put_dec-requires
put_dec-requires c = omega (arith, c.requires, ap length (decimal-whole c.args.k c.args.n c.if-k-eq0.true))

pub returns-then-k-eq0 : goal.returns-then-k-eq0
returns-then-k-eq0 c = rw (decimal-whole _ _ c.if-k-eq0.true) c.put_dec.ensures

pub put_pointed-requires : goal.put_pointed-requires
put_pointed-requires c = omega (arith, c.requires, ap length (decimal-pointed c.args.k c.args.n c.if-k-eq0.false))

pub returns : goal.returns
returns c = rw (decimal-pointed _ _ c.if-k-eq0.false) c.put_pointed.ensures
