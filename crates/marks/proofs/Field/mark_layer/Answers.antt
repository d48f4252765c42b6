-- `marks::Field::mark_layer` meets its contract. Assumes nothing.
use mathlib.Core.Path.{sym, ◌∙◌}
use Rattle.laws.proofs.Ranges.{fold-none, fold-turn, fold_done}
use Rattle.marks.proofs.Rooms.{rows_are}
use Rattle.marks.proofs.Field.mark_layer.Goals as goal

pub loop-v-init : goal.loop-v-init
loop-v-init c = sym (fold-none _ _)

pub loop-v-preserved : goal.loop-v-preserved
loop-v-preserved c = let at = c.loop-v in fold-turn _ at.v _ at.masks _ at.invariant c.mark_row.ensures

pub returns : goal.returns
returns c = let at = c.loop-v in fold_done _ at.v _ _ at.masks at.invariant at.auto.v-end c.loop-v-test.false ∙ rows_are _ _ _ _
