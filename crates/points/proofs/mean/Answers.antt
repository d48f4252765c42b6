-- `points::mean` meets its contract. Assumes nothing.
use Rattle.points.specs.Means.{mean_sum}
use borrow.Author.Tests.{eq-eqb, ne_eqb}
use Rattle.points.proofs.mean.Goals as goal

pub returns-then-n-eq1 : goal.returns-then-n-eq1
unfolding mean_sum
returns-then-n-eq1 c = rw (eq-eqb _ _ c.if-n-eq1.true)

pub returns : goal.returns
unfolding mean_sum
returns c = rw (ne_eqb _ _ c.if-n-eq1.false)
