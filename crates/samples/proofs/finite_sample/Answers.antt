-- `samples::finite_sample` meets its contract. Assumes nothing.
use Rattle.samples.specs.Sides.{when_finite}
use Rattle.samples.proofs.finite_sample.Goals as goal

pub returns-then-is_finite : goal.returns-then-is_finite
unfolding when_finite
returns-then-is_finite c = rw (← c.is_finite.ensures, c.if-is_finite.true)

pub returns-else-is_finite : goal.returns-else-is_finite
unfolding when_finite
returns-else-is_finite c = rw (← c.is_finite.ensures, c.if-is_finite.false)
