-- `refusals::vertex_room` meets its contract. Assumes nothing.
use borrow.Author.Tests.{le-leb, lt-leb}
use Rattle.refusals.specs.Refusals.{vertex_room}
use Rattle.refusals.proofs.vertex_room.Goals as goal

pub returns-then-most-lent : goal.returns-then-most-lent
unfolding vertex_room
returns-then-most-lent c = rw (le-leb _ _ c.if-most-lent.true)

pub returns-else-most-lent : goal.returns-else-most-lent
unfolding vertex_room
returns-else-most-lent c = rw (lt-leb _ _ c.if-most-lent.false)
