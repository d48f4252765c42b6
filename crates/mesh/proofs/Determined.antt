-- What each public function promises, as its source states it, determines the answer and every entry of what it is lent. Assumes nothing.
use mathlib.Core.Path.{sym, ◌∙◌}
use Rattle.laws.specs.Promises.{OneAnswer}
use Rattle.laws.proofs.Bools.{tells_unique}
use Rattle.mesh.proofs.index.Reads as index
use Rattle.mesh.proofs.named.Reads as named

pub index_determined : OneAnswer index.Post
index_determined κ a y z e f p q = p ∙ sym q

pub named_determined : OneAnswer named.Post
named_determined κ a y z e f p q = tells_unique _ y z p q
