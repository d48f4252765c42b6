-- What each public function promises, as its source states it, determines the answer and every entry of what it is lent. Assumes nothing.
use mathlib.Core.List.{List}
use Prim.Native.Nat.{ℕ}
use lib.Ieee.{Float}
use Rattle.laws.specs.Promises.{OneOutcomeAsked}
use Rattle.rollback.proofs.Holding.{rolled_unique}
use Rattle.rollback.proofs.roll_back.Reads as roll-back

pub roll_back_determined : OneOutcomeAsked {B = List ℕ × List Float × List ℕ} (λ κ e. (e.1.1.1.1.0.now, e.1.1.1.1.1.0.now, e.1.1.1.1.1.1.0.now)) roll-back.Pre roll-back.Post
roll_back_determined κ a y z e f r p q = let u = rolled_unique _ _ _ _ _ _ _ _ _ _ r p q in (u.0, λ i. (u.1 i, u.2 i, u.3 i))
