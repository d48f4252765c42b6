-- `decimals::put_pointed` meets its contract: the digits before the last one first. Assumes nothing.
use native.Mathlib.Omega.{arith}
use Rattle.laws.proofs.Written.{written-length}
use Rattle.decimals.proofs.Printing.{pointed-none, pointed-some, point-put, digit-put}
use Rattle.decimals.proofs.+put_pointed.Goals as goal

pub put_dec-mid-requires : goal.put_dec-mid-requires
put_dec-mid-requires t c = omega (arith, c.requires, pointed-none c.args.k c.args.n c.if-k-eq0.true)

pub bounds-out-mid : goal.bounds-out-mid
bounds-out-mid t c = omega (arith, c.requires, pointed-none c.args.k c.args.n c.if-k-eq0.true, c.put_dec-mid.ensures.next, written-length c.put_dec-mid.ensures)

pub overflow_add-result : goal.overflow_add-result
overflow_add-result t c = omega (arith, c.requires, pointed-none c.args.k c.args.n c.if-k-eq0.true, c.put_dec-mid.ensures.next, written-length c.put_dec-mid.ensures)

pub returns-then-k-eq0 : goal.returns-then-k-eq0
returns-then-k-eq0 t c = point-put _ _ c.if-k-eq0.true c.put_dec-mid.ensures

pub put_pointed-mid-requires : goal.put_pointed-mid-requires
put_pointed-mid-requires t c = (omega arith, omega (arith, c.requires, pointed-some c.args.k c.args.n c.if-k-eq0.false))

pub bounds-out-mid-2 : goal.bounds-out-mid-2
bounds-out-mid-2 t c = omega (arith, c.requires, pointed-some c.args.k c.args.n c.if-k-eq0.false, c.put_pointed-mid.ensures.next, written-length c.put_pointed-mid.ensures)

pub overflow_add-result-2 : goal.overflow_add-result-2
overflow_add-result-2 t c = omega (arith, c.requires, pointed-some c.args.k c.args.n c.if-k-eq0.false, c.put_pointed-mid.ensures.next, written-length c.put_pointed-mid.ensures)

pub returns : goal.returns
returns t c = digit-put _ _ c.if-k-eq0.false c.put_pointed-mid.ensures
