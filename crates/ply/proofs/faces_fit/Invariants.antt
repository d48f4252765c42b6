-- The invariant of the loop of `ply::faces_fit`. Assumes nothing.
use Rattle.ply.specs.Inner.Parts.{FacesFit}
use Rattle.ply.proofs.faces_fit.Given as goal

abbrev pub invariant-loop-k : goal.invariant-loop-k
invariant-loop-k l = FacesFit l.s l.at l.k l.v
