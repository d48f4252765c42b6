-- What each public function promises, as its source states it, determines the answer and every entry of what it is lent. Assumes nothing.
use mathlib.Core.List.{List}
use Prim.Native.Nat.{ℕ}
use lib.Ieee.{Float}
use Rattle.laws.specs.Promises.{OneOutcome}
use Rattle.vertex_pass.proofs.Box.{drawn_unique}
use Rattle.vertex_pass.proofs.draw_box.Reads as draw-box

pub draw_box_determined : OneOutcome {B = List ℕ × List Float × List ℕ} (λ κ e. (e.1.1.1.1.0.now, e.1.1.1.1.1.0.now, e.1.1.1.1.1.1.0.now)) draw-box.Post
draw_box_determined κ a y z e f p q = let u = drawn_unique _ _ _ _ _ _ _ _ p q in (u.0, λ i. (u.1 i, u.2 i, u.3 i))
