-- What each public function promises, as its source states it, determines the answer and every entry of what it is lent. Assumes nothing.
use mathlib.Core.Path.{sym, ◌∙◌}
use Rattle.laws.specs.Promises.{OneAnswer, OneOutcome}
use Rattle.build.specs.Answer.{lists}
use Rattle.file_build.specs.Asked.{space_lists}
use Rattle.file_build.proofs.Building.{built_unique}
use Rattle.file_build.proofs.sides_of.Reads as sides-of
use Rattle.file_build.proofs.inside_of.Reads as inside_of
use Rattle.file_build.proofs.floats_of.Reads as floats-of
use Rattle.file_build.proofs.build_file.Reads as build-file
use Rattle.file_build.proofs.WorkSpace.new.Reads as new
use Rattle.file_build.proofs.WorkSpace.build.Reads as build

pub sides_of_determined : OneAnswer sides-of.Post
sides_of_determined κ a y z e f p q = p ∙ sym q

pub inside_of_determined : OneAnswer inside_of.Post
inside_of_determined κ a y z e f p q = p ∙ sym q

pub floats_of_determined : OneAnswer floats-of.Post
floats_of_determined κ a y z e f p q = p ∙ sym q

pub build_file_determined : OneOutcome (λ κ e. lists e.1.0.now e.1.1.0.now e.1.1.1.0.now e.1.1.1.1.0.now e.1.1.1.1.1.0.now e.1.1.1.1.1.1.0.now) build-file.Post
build_file_determined κ a y z e f p q = let u = built_unique p q in (u.1, u.0)

pub new_determined : OneAnswer new.Post
new_determined κ a y z e f p q = p ∙ sym q

pub build_determined : OneOutcome (λ κ e. space_lists e.0.now) build.Post
build_determined κ a y z e f p q = let u = built_unique p q in (u.1, u.0)
