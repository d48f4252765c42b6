-- `refusals::settings_ok` meets its contract. Assumes nothing.
use borrow.Author.Tests.{le-leb, lt-leb}
use Rattle.refusals.specs.Refusals.{settings_ok}
use Rattle.refusals.proofs.settings_ok.Goals as goal

pub returns-then-method-le1 : goal.returns-then-method-le1
unfolding settings_ok
returns-then-method-le1 c = rw (le-leb _ _ c.if-method-le1.true)

pub returns-else-method-le1 : goal.returns-else-method-le1
unfolding settings_ok
returns-else-method-le1 c = rw (lt-leb _ _ c.if-method-le1.false)
