-- What each public function promises, as its source states it, determines the answer and every entry of what it is lent. Assumes nothing.
use mathlib.Core.Path.{sym, ◌∙◌}
use Rattle.laws.specs.Promises.{OneOutcome}
use Rattle.crowded.proofs.flag_ends.Reads as flag-ends
use Rattle.crowded.proofs.flag_owners.Reads as flag-owners

pub flag_ends_determined : OneOutcome (λ κ e. e.1.0.now) flag-ends.Post
flag_ends_determined κ a y z e f p q = (p.found ∙ sym q.found, p.flags ∙ sym q.flags)

pub flag_owners_determined : OneOutcome (λ κ e. e.1.1.0.now) flag-owners.Post
flag_owners_determined κ a y z e f p q = (p.found ∙ sym q.found, p.flags ∙ sym q.flags)
