-- The invariant of the loop of `crowded::flag_corners`. Assumes nothing.
use Rattle.crowded.specs.Inner.Turns.{wanted, owner_turn}
use Rattle.crowded.proofs.Turns.{Looped}
use Rattle.crowded.proofs.flag_corners.Given as goal

abbrev pub invariant-loop-k : goal.invariant-loop-k
invariant-loop-k l = Looped l.tris l.a (owner_turn l.tris l.book l.a) (wanted l.tris l.book) l.initial.room l.k l.room l.found
