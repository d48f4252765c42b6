-- `lines::dec_more` meets its contract: what has been read is the print of the number so far. Assumes nothing.
use native.Mathlib.Omega.{arith}
use Rattle.lines.proofs.ReadDecimal.{start, turn, bad_byte, bad-zero, bad_long, bad-end}
use Rattle.lines.proofs.dec_more.Goals as goal

pub loop-i-init : goal.loop-i-init
loop-i-init c = let p = c.requires in start _ _ _ p.0 p.1 p.2

pub returns-then-not-is_ascii_digit : goal.returns-then-not-is_ascii_digit
returns-then-not-is_ascii_digit c = bad_byte _ _ _ _ c.loop-i.invariant c.loop-i-test.true c.if-b-eq10.false (λ d. omega (arith, d.low, d.high, c.if-not-is_ascii_digit.ensures.cases))

pub returns-then-n-eq0 : goal.returns-then-n-eq0
returns-then-n-eq0 c = let h = c.if-not-is_ascii_digit.ensures.cases in
    bad-zero _ _ _ _ c.loop-i.invariant c.loop-i-test.true (record { low = h.0; high = h.1 }) c.if-n-eq0.true

pub returns-then-n-ge100000000 : goal.returns-then-n-ge100000000
returns-then-n-ge100000000 c = let h = c.if-not-is_ascii_digit.ensures.cases in
    bad_long _ _ _ _ c.loop-i.invariant c.loop-i-test.true (record { low = h.0; high = h.1 }) c.if-n-ge100000000.true

pub loop-i-preserved : goal.loop-i-preserved
loop-i-preserved c = let h = c.if-not-is_ascii_digit.ensures.cases in
    turn _ _ _ _ c.loop-i.invariant c.loop-i-test.true c.from.result (omega (arith, h, c.from.ensures)) (omega (arith, h, c.from.ensures)) c.if-n-eq0.false c.if-n-ge100000000.false

pub returns : goal.returns
returns c = bad-end _ _ _ _ c.loop-i.invariant c.loop-i-test.false
