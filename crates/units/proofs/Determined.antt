-- What each public function promises, as its source states it, determines the answer and every entry of what it is lent. Assumes nothing.
use Rattle.std.proofs.Common.{sym, ◌∙◌}
use Rattle.laws.specs.Promises.{OneAnswer}
use Rattle.units.proofs.size_of.Reads as size-of
use Rattle.units.proofs.coordinate_of.Reads as coordinate-of

pub size_of_determined : OneAnswer size-of.Post
size_of_determined κ a y z e f p q = p ∙ sym q

pub coordinate_of_determined : OneAnswer coordinate-of.Post
coordinate_of_determined κ a y z e f p q = p ∙ sym q
