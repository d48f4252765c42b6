-- `lines::dec_at` meets its contract: the first digit is read apart. Assumes nothing.
use native.Mathlib.Omega.{arith}
use borrow.Author.Tests.{ltb-false}
use mathlib.Core.Path.{sym}
use Rattle.lines.proofs.ReadDecimal.{no_byte, no_digit}
use Rattle.lines.proofs.dec_at.Goals as goal

pub returns-in_err-b : goal.returns-in_err-b
returns-in_err-b c = rw c.from_residual.ensures (no_byte _ _ (ltb-false _ _ (sym c.in_err-b.ensures.lookup.0)))

pub returns-then-not-is_ascii_digit : goal.returns-then-not-is_ascii_digit
returns-then-not-is_ascii_digit c = let at = c.in_ok-b.ensures.lookup.3 in
    no_digit _ _ at.0 (λ d. omega (arith, d.low, d.high, at.1 0, c.if-not-is_ascii_digit.ensures.cases))

pub dec_more-requires : goal.dec_more-requires
dec_more-requires c = let at = c.in_ok-b.ensures.lookup.3 in
    let h = c.if-not-is_ascii_digit.ensures.cases in
    (at.0, omega (arith, h, c.from.ensures), omega (arith, h, at.1 0, c.from.ensures))
