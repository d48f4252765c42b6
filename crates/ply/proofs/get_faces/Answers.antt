-- `ply::get_faces` meets its contract. Assumes nothing.
use native.Mathlib.Omega.{arith}
use Prim.Native.Nat.{◌+◌, ◌*◌}
use native.Mathlib.Nat.{le_of_eq}
use Rattle.laws.proofs.Ranges.{each_none}
use Rattle.laws.proofs.Written.{written_none, written-turn, written-done, written-room}
use Rattle.ply.specs.Inner.Parts.{face_at, faces_in}
use Rattle.ply.proofs.Reading.{face-three}
use Rattle.ply.proofs.get_faces.Goals as goal

pub loop-k-init : goal.loop-k-init
loop-k-init c = rw each_none (written_none _ _)

pub get_face-next-requires : goal.get_face-next-requires
get_face-next-requires c = let l = c.loop-k in
    let a = c.args in
    (omega arith, written-room (λ i. face_at a.s.now (a.at + i * 13)) 3 (λ i. le_of_eq (face-three a.s.now (a.at + i * 13))) l.k a.n l.invariant c.loop-k-test.true (omega (arith, c.requires.1)))

pub loop-k-preserved : goal.loop-k-preserved
loop-k-preserved c = let l = c.loop-k in
    let a = c.args in
    written-turn (λ i. face_at a.s.now (a.at + i * 13)) l.k l.invariant c.get_face-next.ensures

pub returns : goal.returns
unfolding faces_in
returns c = let l = c.loop-k in
    let a = c.args in
    written-done (λ i. face_at a.s.now (a.at + i * 13)) l.k a.n l.invariant (omega (arith, l.auto.k-end)) c.loop-k-test.false
