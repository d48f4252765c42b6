-- `marks::Site::mark_site` meets its contract. Assumes nothing.
use mathlib.Core.Path.{sym}
use Rattle.laws.proofs.Ranges.{fold-none, fold-turn, fold_done}
use Rattle.marks.specs.Inner.Loops.{mark_site}
use Rattle.marks.proofs.Site.mark_site.Goals as goal

pub loop-label-init : goal.loop-label-init
loop-label-init c = sym (fold-none _ _)

pub loop-label-preserved : goal.loop-label-preserved
loop-label-preserved c = let at = c.loop-label in fold-turn _ at.label _ at.masks _ at.invariant c.mark_label.ensures

pub returns : goal.returns
unfolding mark_site
returns c = let at = c.loop-label in fold_done _ at.label 7 _ at.masks at.invariant at.auto.label-end c.loop-label-test.false
