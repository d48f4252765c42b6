-- `marks::cross_site` meets its contract. Assumes nothing.
use native.Mathlib.Omega.{arith}
use mathlib.Core.Path.{sym}
use Rattle.laws.proofs.Bools.{bit_le}
use Rattle.laws.proofs.Sums.{sum-none, sum-turn, sum_done, sum_room}
use Rattle.marks.specs.Inner.Loops.{cross_site}
use Rattle.marks.proofs.cross_site.Goals as goal

pub loop-label-init : goal.loop-label-init
loop-label-init c = sym (sum-none _)

pub overflow_add-total : goal.overflow_add-total
overflow_add-total c = let at = c.loop-label in
    record { fits = omega (arith, sum_room _ 1 at.label 7 at.total _ (λ l. bit_le _) at.invariant c.crosses_at-total.ensures c.loop-label-test.true) }

pub loop-label-preserved : goal.loop-label-preserved
loop-label-preserved c = let at = c.loop-label in sum-turn _ at.label at.total _ at.invariant c.crosses_at-total.ensures

pub returns : goal.returns
unfolding cross_site
returns c = let at = c.loop-label in sum_done _ at.label 7 at.total at.invariant at.auto.label-end c.loop-label-test.false
