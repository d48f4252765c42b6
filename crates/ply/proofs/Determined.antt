-- What each public function promises, as its source states it, determines the answer and every entry of what it is lent. Assumes nothing.
use mathlib.Core.Path.{sym, ◌∙◌}
use mathlib.Core.List.{List}
use Prim.Native.Nat.{ℕ}
use Rattle.laws.specs.Promises.{OneAnswer, OneOutcome}
use Rattle.ply.proofs.Promises.{sizes_unique, read_unique}
use Rattle.ply.proofs.Refusal.number.Reads as number
use Rattle.ply.proofs.sizes.Reads as sizes
use Rattle.ply.proofs.read.Reads as read

pub number_determined : OneAnswer number.Post
number_determined κ a y z e f p q = p ∙ sym q

pub sizes_determined : OneAnswer sizes.Post
sizes_determined κ a y z e f p q = sizes_unique p q

pub read_determined : OneOutcome {B = List ℕ × List ℕ} (λ κ e. (e.1.0.now, e.1.1.0.now)) read.Post
read_determined κ a y z e f p q = let u = read_unique p q in (u.2, λ i. (u.0 i, u.1 i))
