-- What each public function promises, as its source states it, determines the answer and every entry of what it is lent. Assumes nothing.
use mathlib.Core.Path.{sym, ◌∙◌}
use Rattle.laws.specs.Promises.{OneAnswer, OneOutcome}
use Rattle.build.specs.Answer.{lists}
use Rattle.build.proofs.Unique.{build_unique}
use Rattle.build.proofs.refused.Reads as refused
use Rattle.build.proofs.build.Reads as build

pub refused_determined : OneAnswer refused.Post
refused_determined κ a y z e f p q = p ∙ sym q

pub build_determined : OneOutcome (λ κ e. lists e.1.1.1.1.1.1.0.now e.1.1.1.1.1.1.1.0.now e.1.1.1.1.1.1.1.1.0.now e.1.1.1.1.1.1.1.1.1.0.now e.1.1.1.1.1.1.1.1.1.1.0.now e.1.1.1.1.1.1.1.1.1.1.1.0.now) build.Post
build_determined κ a y z e f p q = build_unique p q
