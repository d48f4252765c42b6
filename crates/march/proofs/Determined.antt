-- What each public function promises, as its source states it, determines the answer and every entry of what it is lent. Assumes nothing.
use Rattle.laws.specs.Promises.{OneOutcome}
use Rattle.laws.proofs.Written.{written_unique}
use native.Mathlib.Omega.{arith}
use Rattle.march.proofs.march_layer.Reads as march-layer
use Rattle.march.proofs.march_box.Reads as march-box

pub march_layer_determined : OneOutcome (λ κ e. e.1.1.0.now) march-layer.Post
march_layer_determined κ a y z e f p q = let u = written_unique p q in (u.1, u.0)

pub march_box_determined : OneOutcome (λ κ e. e.1.1.0.now) march-box.Post
march_box_determined κ a y z e f p q = let w = written_unique p q in (omega (arith, w.1), w.0)
