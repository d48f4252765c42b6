-- `lines::put_dec` meets its contract: the tenth first, then the last digit. Assumes nothing.
use Rattle.std.proofs.Common.{◌≤◌, arith}
use Rattle.lines.proofs.Printing.{put-digit, put_last, longer}
use Rattle.lines.proofs.Decimals.{dec_some}
use Rattle.laws.proofs.Written.{written-length}
use Rattle.lines.proofs.+put_dec.Goals as goal

pub bounds-out-at : goal.bounds-out-at
bounds-out-at t c = omega (arith, c.requires, dec_some c.args.n)

pub returns-then-n-lt10 : goal.returns-then-n-lt10
returns-then-n-lt10 t c = put-digit _ _ _ c.if-n-lt10.true

pub put_dec-mid-requires : goal.put_dec-mid-requires
put_dec-mid-requires t c =
    let n = c.args.n in
    let h : 10 ≤ n = c.if-n-lt10.false in
    (omega arith, omega (arith, c.requires, longer n h (omega arith)))

pub bounds-out-mid : goal.bounds-out-mid
bounds-out-mid t c =
    let n = c.args.n in
    let h : 10 ≤ n = c.if-n-lt10.false in
    omega (arith, c.requires, longer n h (omega arith), c.put_dec-mid.ensures.next, written-length c.put_dec-mid.ensures)

pub overflow_add-result-2 : goal.overflow_add-result-2
overflow_add-result-2 t c =
    let n = c.args.n in
    let h : 10 ≤ n = c.if-n-lt10.false in
    omega (arith, c.requires, longer n h (omega arith), c.put_dec-mid.ensures.next, written-length c.put_dec-mid.ensures)

pub returns : goal.returns
returns t c = put_last _ _ _ _ _ c.if-n-lt10.false (omega arith) c.put_dec-mid.ensures
