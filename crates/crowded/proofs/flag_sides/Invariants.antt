-- The invariant of the loop of `crowded::flag_sides`. Assumes nothing.
use Rattle.pairs.specs.Sides.{crowded}
use Rattle.crowded.specs.Inner.Turns.{end_turn}
use Rattle.crowded.proofs.Turns.{Looped}
use Rattle.crowded.proofs.flag_sides.Given as goal

abbrev pub invariant-loop-k : goal.invariant-loop-k
invariant-loop-k l = Looped l.tris l.a (end_turn l.tris l.a) (crowded l.tris) l.initial.room l.k l.room l.found
