-- The invariant and the measure of each loop of `topology::do_not_cluster`. Assumes nothing.
use lib.Count.{ones_in}
use Rattle.topology.proofs.Singles.{Left}
use Rattle.topology.proofs.do_not_cluster.Given as goal

abbrev pub invariant-loop-left : goal.invariant-loop-left
invariant-loop-left l = Left l.edge_mask l.left l.masks l.count

abbrev pub decreases-loop-left : goal.decreases-loop-left
decreases-loop-left l = ones_in 14 l.left
