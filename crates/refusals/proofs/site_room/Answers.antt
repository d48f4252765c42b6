-- `refusals::site_room` meets its contract. Assumes nothing.
use borrow.Author.Tests.{le-leb, lt-leb}
use Rattle.refusals.specs.Refusals.{site_room}
use Rattle.refusals.proofs.site_room.Goals as goal

pub returns-then-sites-lent : goal.returns-then-sites-lent
unfolding site_room
returns-then-sites-lent c = rw (le-leb _ _ c.if-sites-lent.true)

pub returns-else-sites-lent : goal.returns-else-sites-lent
unfolding site_room
returns-else-sites-lent c = rw (lt-leb _ _ c.if-sites-lent.false)
