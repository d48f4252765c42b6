-- The invariant of the loop of `ply::get_faces`. Assumes nothing.
use Prim.Native.Nat.{◌+◌, ◌*◌}
use Rattle.laws.specs.Ranges.{each}
use Rattle.laws.specs.Written.{Written}
use Rattle.ply.specs.Inner.Parts.{face_at}
use Rattle.ply.proofs.get_faces.Given as goal

abbrev pub invariant-loop-k : goal.invariant-loop-k
invariant-loop-k l = Written l.initial.triangles 0 (each l.k (λ i. face_at l.s (l.at + i * 13))) l.triangles l.next
