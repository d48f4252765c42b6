-- `lattice::at_end` meets its contract. Assumes nothing.
use borrow.Author.Tests.{eq-eqb, ne_eqb}
use Rattle.lattice.specs.Sites.{at_end}
use Rattle.lattice.proofs.at_end.Goals as goal

pub returns-then-x-eq0 : goal.returns-then-x-eq0
unfolding at_end
returns-then-x-eq0 c = rw (eq-eqb c.args.x 0 c.if-x-eq0.true)

pub returns-else-x-eq0 : goal.returns-else-x-eq0
unfolding at_end
returns-else-x-eq0 c = rw (ne_eqb c.args.x 0 c.if-x-eq0.false)
