-- `lattice::sides_ok` meets its contract. Assumes nothing.
use Rattle.lattice.specs.Sites.{sides_ok}
use Rattle.lattice.proofs.sides_ok.Goals as goal

pub returns-then-side_ok-2 : goal.returns-then-side_ok-2
unfolding sides_ok
returns-then-side_ok-2 c = rw (← c.side_ok-then-side_ok-2.ensures, ← c.side_ok-then-side_ok.ensures, ← c.side_ok.ensures, c.if-side_ok-2.true, c.if-side_ok.true)

pub returns-else-side_ok-2 : goal.returns-else-side_ok-2
unfolding sides_ok
returns-else-side_ok-2 c = rw (← c.side_ok-then-side_ok.ensures, ← c.side_ok.ensures, c.if-side_ok-2.false, c.if-side_ok.true)

pub returns-else-side_ok : goal.returns-else-side_ok
unfolding sides_ok
returns-else-side_ok c = rw (← c.side_ok.ensures, c.if-side_ok.false)
