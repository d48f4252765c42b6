-- `ply_write::put_faces` meets its contract. Assumes nothing.
use native.Mathlib.Omega.{arith}
use Prim.Native.Nat.{ℕ, ◌+◌, ◌*◌, ◌/◌}
use native.Mathlib.Nat.{le_of_eq}
use mathlib.Core.Path.{refl, ap, ◌∙◌}
use mathlib.Core.List.{List, []}
use lib.ListN.{length, get_or}
use Rattle.laws.proofs.Ranges.{each_none}
use Rattle.laws.proofs.Written.{written_none, written-turn, written-done, written-room}
use Rattle.ply_write.specs.Form.{face_text, faces_text}
use Rattle.ply_write.proofs.Writing.{face-length, three_at}
use Rattle.ply_write.proofs.put_faces.Goals as goal

pub loop-a-init : goal.loop-a-init
loop-a-init c = rw each_none (written_none _ _)

pub put_face-next-requires : goal.put_face-next-requires
put_face-next-requires c = let l = c.loop-a in
    let t = c.args.triangles.now in
    written-room (λ i. face_text (get_or t (i * 3) 0) (get_or t (i * 3 + 1) 0) (get_or t (i * 3 + 2) 0)) 13 (λ i. le_of_eq (face-length (get_or t (i * 3) 0) (get_or t (i * 3 + 1) 0) (get_or t (i * 3 + 2) 0))) l.a-index (length t / 3) l.invariant (omega (arith, c.loop-a-test.true, c.as_chunks.ensures.front_len)) c.requires

pub loop-a-preserved : goal.loop-a-preserved
loop-a-preserved c = let l = c.loop-a in
    let t = c.args.triangles.now in
    let e = ap (λ (x : List (List ℕ)). get_or x l.a-index []) c.as_chunks.ensures.front ∙ three_at [] (length t / 3) t l.a-index (omega (arith, c.loop-a-test.true, c.as_chunks.ensures.front_len)) refl in
    written-turn (λ i. face_text (get_or t (i * 3) 0) (get_or t (i * 3 + 1) 0) (get_or t (i * 3 + 2) 0)) l.a-index l.invariant (rw e at c.put_face-next.ensures)

pub returns : goal.returns
unfolding faces_text
returns c = let l = c.loop-a in
    let t = c.args.triangles.now in
    written-done (λ i. face_text (get_or t (i * 3) 0) (get_or t (i * 3 + 1) 0) (get_or t (i * 3 + 2) 0)) l.a-index (length t / 3) l.invariant (omega (arith, l.auto.a-index-end, c.as_chunks.ensures.front_len)) (omega (arith, c.loop-a-test.false, c.as_chunks.ensures.front_len))
