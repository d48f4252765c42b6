-- What each public function promises, as its source states it, determines the answer and every entry of what it is lent. Assumes nothing.
use Rattle.laws.specs.Promises.{OneOutcome}
use Rattle.ply_file.proofs.Texts.{drawn_at_unique}
use Rattle.ply_file.proofs.ply_text.Reads as ply-text

pub ply_text_determined : OneOutcome (λ κ e. e.1.0.now) ply-text.Post
ply_text_determined κ a y z e f p q = let u = drawn_at_unique p q in (u.1, u.0)
