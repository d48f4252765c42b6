-- `samples::hold` meets its contract. Assumes nothing.
use Rattle.samples.specs.Sides.{hold}
use Rattle.samples.proofs.hold.Goals as goal

pub returns-then-t : goal.returns-then-t
unfolding hold
returns-then-t c = rw c.if-t.true

pub returns-then-t-2 : goal.returns-then-t-2
unfolding hold
returns-then-t-2 c = rw (c.if-t.false, c.if-t-2.true)

pub returns : goal.returns
unfolding hold
returns c = rw (c.if-t.false, c.if-t-2.false)
