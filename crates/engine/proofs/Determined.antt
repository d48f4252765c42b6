-- What each public function promises, as its source states it, determines the answer and every entry of what it is lent. Assumes nothing.
use mathlib.Core.List.{List}
use Prim.Native.Nat.{ℕ}
use Rattle.laws.specs.Promises.{OneOutcome}
use Rattle.engine.specs.Engine.{Work, work}
use Rattle.engine.proofs.Unique.{ran_unique}
use Rattle.engine.proofs.run.Reads as run

pub run_determined : OneOutcome {B = List ℕ × Work × List ℕ} (λ κ e. (e.1.1.0.now, work e.1.1.1.0.now e.1.1.1.1.0.now e.1.1.1.1.1.0.now e.1.1.1.1.1.1.0.now, e.1.1.1.1.1.1.1.0.now)) run.Post
run_determined κ a y z e f p q = let u = ran_unique _ _ p q in (u.0, λ i. (u.1 i, u.2 i, u.3 i))
