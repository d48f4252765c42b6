-- What each public function promises, as its source states it, determines the answer and every entry of what it is lent. Assumes nothing.
use mathlib.Core.Path.{sym, ◌∙◌}
use Rattle.laws.specs.Promises.{OneAnswer, OneLeft}
use Rattle.marks.proofs.mark_layer.Reads as mark-layer
use Rattle.marks.proofs.mark_box.Reads as mark-box
use Rattle.marks.proofs.count_crossed.Reads as count-crossed

pub mark_layer_determined : OneLeft (λ κ e. e.1.1.0.now) mark-layer.Post
mark_layer_determined κ a y z e f p q = p ∙ sym q

pub mark_box_determined : OneLeft (λ κ e. e.1.1.0.now) mark-box.Post
mark_box_determined κ a y z e f p q = p ∙ sym q

pub count_crossed_determined : OneAnswer count-crossed.Post
count_crossed_determined κ a y z e f p q = p ∙ sym q
