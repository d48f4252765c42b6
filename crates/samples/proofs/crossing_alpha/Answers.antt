-- `samples::crossing_alpha` meets its contract. Assumes nothing.
use Rattle.samples.specs.Sides.{crossing}
use Rattle.samples.proofs.crossing_alpha.Goals as goal

pub returns-then-is_inside : goal.returns-then-is_inside
unfolding crossing
returns-then-is_inside c = rw (← c.is_inside-2.ensures, ← c.is_inside.ensures, c.if-is_inside.true)

pub returns : goal.returns
unfolding crossing
returns c = rw (← c.mark_fraction.ensures, ← c.is_inside-2.ensures, ← c.is_inside.ensures, c.if-is_inside.false)
