-- `topology::is_near` meets its contract. Assumes nothing.
use Rattle.samples.specs.Sides.{is_near}
use Rattle.topology.proofs.is_near.Goals as goal

pub returns-in-None : goal.returns-in-None
unfolding is_near
returns-in-None c = rw (← c.crossing_alpha-c.ensures, c.in-None.is)

pub returns-in-Some : goal.returns-in-Some
unfolding is_near
returns-in-Some c = rw (← c.crossing_alpha-c.ensures, c.in-Some.is)
