-- `count::print` meets its contract. Assumes nothing.
use borrow.Author.Tests.{eq-eqb, ne_eqb}
use Rattle.count.specs.Count.{printed}
use Rattle.count.proofs.print.Goals as goal

pub returns-then-status-ne0 : goal.returns-then-status-ne0
unfolding printed
returns-then-status-ne0 c = rw (ne_eqb _ 0 c.if-status-ne0.true) c.put_status.ensures

pub returns : goal.returns
unfolding printed
returns c = rw (eq-eqb _ 0 c.if-status-ne0.false) (rw c.counts_of-counts.ensures at c.print_answer.ensures)
