-- The invariant and the measure of each loop of `tables::neighbours_in`. Assumes nothing.
use lib.Count.{ones_in}
use Rattle.tables.proofs.Neighbours.{Asking}
use Rattle.tables.proofs.neighbours_in.Given as goal

abbrev pub invariant-loop-left : goal.invariant-loop-left
invariant-loop-left l = Asking l.e l.mask l.left l.found

abbrev pub decreases-loop-left : goal.decreases-loop-left
decreases-loop-left l = ones_in 14 l.left
