-- `lattice::is_border` meets its contract. Assumes nothing.
use Rattle.lattice.specs.Sites.{on_border}
use Rattle.lattice.proofs.is_border.Goals as goal

pub returns-then-at_end : goal.returns-then-at_end
unfolding on_border
returns-then-at_end c = rw (← c.at_end.ensures, c.if-at_end.true)

pub returns-then-at_end-2 : goal.returns-then-at_end-2
unfolding on_border
returns-then-at_end-2 c = rw (← c.at_end-2.ensures, ← c.at_end.ensures, c.if-at_end-2.true, c.if-at_end.false)

pub returns : goal.returns
unfolding on_border
returns c = rw (← c.at_end-3.ensures, ← c.at_end-2.ensures, ← c.at_end.ensures, c.if-at_end-2.false, c.if-at_end.false)
