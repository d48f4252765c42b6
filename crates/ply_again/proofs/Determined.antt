-- What each public function promises, as its source states it, determines the answer and every entry of what it is lent. Assumes nothing.
use Rattle.laws.specs.Promises.{OneOutcome}
use Rattle.ply_again.proofs.Again.{again_unique}
use Rattle.ply_again.proofs.again_text.Reads as again-text

pub again_text_determined : OneOutcome (λ κ e. e.1.0.now) again-text.Post
again_text_determined κ a y z e f p q = let u = again_unique p q in (u.1, u.0)
