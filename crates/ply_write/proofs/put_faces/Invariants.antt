-- The invariant of the loop of `ply_write::put_faces`. Assumes nothing.
use Prim.Native.Nat.{◌+◌, ◌*◌}
use lib.ListN.{get_or}
use Rattle.laws.specs.Ranges.{each}
use Rattle.laws.specs.Written.{Written}
use Rattle.ply_write.specs.Form.{face_text}
use Rattle.ply_write.proofs.put_faces.Given as goal

abbrev pub invariant-loop-a : goal.invariant-loop-a
invariant-loop-a l = Written l.initial.out l.at (each l.a-index (λ i. face_text (get_or l.triangles (i * 3) 0) (get_or l.triangles (i * 3 + 1) 0) (get_or l.triangles (i * 3 + 2) 0))) l.out l.next
