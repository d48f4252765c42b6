-- The invariant of the loop of `rollback::roll_back`. Assumes nothing.
use Rattle.rollback.proofs.Rounds.{Sofar}
use Rattle.rollback.proofs.roll_back.Given as goal

abbrev pub invariant-loop-i : goal.invariant-loop-i
invariant-loop-i l =
    Sofar l.fn.frame l.fn.n l.samples l.masks l.initial.table l.initial.positions l.initial.book l.flags l.count l.round l.i l.next l.table l.positions l.book
