-- What each public function promises, as its source states it, determines the answer and every entry of what it is lent. Assumes nothing.
use mathlib.Core.Path.{sym, ◌∙◌}
use Rattle.laws.specs.Promises.{OneAnswer, OneOutcome}
use Rattle.ply_write.proofs.Promises.{write_unique}
use Rattle.ply_write.proofs.length_of.Reads as length-of
use Rattle.ply_write.proofs.Refusal.number.Reads as number
use Rattle.ply_write.proofs.write.Reads as write
use Rattle.ply_write.proofs.write_mesh.Reads as write-mesh

pub length_of_determined : OneAnswer length-of.Post
length_of_determined κ a y z e f p q = p ∙ sym q

pub number_determined : OneAnswer number.Post
number_determined κ a y z e f p q = p ∙ sym q

pub write_determined : OneOutcome (λ κ e. e.1.1.0.now) write.Post
write_determined κ a y z e f p q = let u = write_unique p q in (u.1, u.0)

pub write_mesh_determined : OneOutcome (λ κ e. e.1.1.0.now) write-mesh.Post
write_mesh_determined κ a y z e f p q = let u = write_unique p q in (u.1, u.0)
