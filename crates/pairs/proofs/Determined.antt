-- What each public function promises, as its source states it, determines the answer and every entry of what it is lent. Assumes nothing.
use mathlib.Core.Path.{sym, ◌∙◌}
use Rattle.laws.specs.Promises.{OneAnswer, OneLeft}
use Rattle.pairs.proofs.Runs.{front_count}
use Rattle.pairs.proofs.next_corner.Reads as next-corner
use Rattle.pairs.proofs.fill.Reads as fill
use Rattle.pairs.proofs.run.Reads as run
use Rattle.pairs.proofs.over_sides.Reads as over-sides

pub next_corner_determined : OneAnswer next-corner.Post
next_corner_determined κ a y z e f p q = p ∙ sym q

pub fill_determined : OneLeft (λ κ e. e.1.0.now) fill.Post
fill_determined κ a y z e f p q = p ∙ sym q

pub run_determined : OneAnswer run.Post
run_determined κ a y z e f p q = sym (front_count _ y p) ∙ front_count _ z q

pub over_sides_determined : OneLeft (λ κ e. e.1.0.now) over-sides.Post
over_sides_determined κ a y z e f p q = p ∙ sym q
