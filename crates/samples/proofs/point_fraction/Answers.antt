-- `samples::point_fraction` meets its contract. Assumes nothing.
use Rattle.samples.specs.Sides.{point_fraction}
use Rattle.samples.proofs.point_fraction.Goals as goal

pub returns : goal.returns
unfolding point_fraction
returns c = rw (c.hold.ensures, c.mark_fraction.ensures)
