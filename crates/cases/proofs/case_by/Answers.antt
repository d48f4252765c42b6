-- `cases::case_by` meets its contract. Assumes nothing.
use borrow.Author.Tests.{lt-ltb, le-ltb}
use Rattle.cases.specs.Inner.Codes.{case_by}
use Rattle.cases.proofs.case_by.Goals as goal

pub returns-then-x-lt16 : goal.returns-then-x-lt16
unfolding case_by
returns-then-x-lt16 c = rw (lt-ltb _ _ c.if-x-lt16.true)

pub returns-else-x-lt16 : goal.returns-else-x-lt16
unfolding case_by
returns-else-x-lt16 c = rw (le-ltb _ _ c.if-x-lt16.false)
