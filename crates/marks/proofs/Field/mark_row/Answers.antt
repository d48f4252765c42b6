-- `marks::Field::mark_row` meets its contract. Assumes nothing.
use mathlib.Core.Path.{sym}
use Rattle.laws.proofs.Ranges.{fold-none, fold-turn, fold_done}
use Rattle.marks.specs.Inner.Loops.{mark_row}
use Rattle.marks.proofs.Field.mark_row.Goals as goal

pub loop-u-init : goal.loop-u-init
loop-u-init c = sym (fold-none _ _)

pub loop-u-preserved : goal.loop-u-preserved
loop-u-preserved c = let at = c.loop-u in
    fold-turn _ at.u _ at.masks _ at.invariant (rw (c.site.ensures.field, c.site.ensures.number) at c.mark_site.ensures)

pub returns : goal.returns
unfolding mark_row
returns c = let at = c.loop-u in fold_done _ at.u _ _ at.masks at.invariant at.auto.u-end c.loop-u-test.false
