-- `lattice::side_ok` meets its contract. Assumes nothing.
use borrow.Author.Tests.{lt-ltb, le-ltb}
use Rattle.lattice.specs.Sites.{side_ok}
use Rattle.lattice.proofs.side_ok.Goals as goal

pub returns-then-n-gt0 : goal.returns-then-n-gt0
unfolding side_ok
returns-then-n-gt0 c = rw (lt-ltb 0 c.args.n c.if-n-gt0.true)

pub returns-else-n-gt0 : goal.returns-else-n-gt0
unfolding side_ok
returns-else-n-gt0 c = rw (le-ltb 0 c.args.n c.if-n-gt0.false)
