-- The invariant and the measure of each loop of `rollback::Round::held_mask`. Assumes nothing.
use lib.Count.{ones_in}
use lib.ListN.{get_or}
use Rattle.laws.specs.Inner.Visits.{Visiting}
use Rattle.rollback.proofs.Masks.{Holds}
use Rattle.rollback.proofs.Round.held_mask.Given as goal

abbrev pub invariant-loop-rest : goal.invariant-loop-rest
invariant-loop-rest l = Visiting (Holds l.self.source.sides l.table l.s l.i) 14 (get_or l.self.masks.now l.s 0) 0 l.rest l.held

abbrev pub decreases-loop-rest : goal.decreases-loop-rest
decreases-loop-rest l = ones_in 14 l.rest
