-- `lines::hex_at` meets its contract: what has been read is the print of the number so far. Assumes nothing.
use Prim.Native.Nat.{◌<◌}
use native.Mathlib.Omega.{arith}
use mathlib.Core.Path.{sym, ◌∙◌}
use borrow.Author.Tests.{eqb-false}
use Rattle.lines.proofs.ReadHex.{start, turn, turn_fits, bad-digit, bad-end, too_short, part_at}
use Rattle.lines.proofs.hex_at.Goals as goal

pub returns-then-s-from-lt16 : goal.returns-then-s-from-lt16
returns-then-s-from-lt16 c = too_short _ _ c.if-s-from-lt16.true

pub loop-b-init : goal.loop-b-init
loop-b-init c = start _ _

pub returns-in_err-d : goal.returns-in_err-d
returns-in_err-d c = let at = c.loop-b in let a = c.args in
    let h : at.b-index < 16 = omega arith in
    rw c.from_residual.ensures (bad-digit _ _ _ _ at.invariant (omega arith) h (rw (part_at a.s.now a.from at.b-index h) at c.in_err-d.ensures))

pub overflow_mul-n : goal.overflow_mul-n
overflow_mul-n c = let at = c.loop-b in let a = c.args in
    let h : at.b-index < 16 = omega arith in
    let w = turn_fits _ _ _ _ at.invariant (omega arith) h c.in_ok-d.d (rw (part_at a.s.now a.from at.b-index h) at c.in_ok-d.ensures) in
    omega (arith, w)

pub overflow_add-n : goal.overflow_add-n
overflow_add-n c = let at = c.loop-b in let a = c.args in
    let h : at.b-index < 16 = omega arith in
    let w = turn_fits _ _ _ _ at.invariant (omega arith) h c.in_ok-d.d (rw (part_at a.s.now a.from at.b-index h) at c.in_ok-d.ensures) in
    omega (arith, w)

pub loop-b-preserved : goal.loop-b-preserved
loop-b-preserved c = let at = c.loop-b in let a = c.args in
    let h : at.b-index < 16 = omega arith in
    turn _ _ _ _ at.invariant (omega arith) h c.in_ok-d.d (rw (part_at a.s.now a.from at.b-index h) at c.in_ok-d.ensures)

pub returns : goal.returns
returns c = let at = c.loop-b in
    bad-end _ _ _ _ at.invariant (omega arith) (omega arith) (eqb-false _ _ (sym c.ends.ensures ∙ c.if-ends.false))
