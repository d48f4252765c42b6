-- `marks::Field::cross_layer` meets its contract. Assumes nothing.
use native.Mathlib.Omega.{arith}
use mathlib.Core.Path.{sym, ◌∙◌}
use Rattle.laws.proofs.Sums.{sum-none, sum-turn, sum_done, sum_room}
use Rattle.marks.proofs.Rooms.{row-most, cross_rows}
use Rattle.marks.proofs.Field.cross_layer.Goals as goal

pub loop-v-init : goal.loop-v-init
loop-v-init c = sym (sum-none _)

pub overflow_add-total : goal.overflow_add-total
overflow_add-total c = let at = c.loop-v in
    let fit = c.args.self.now.sampled.fit in
    record { fits = omega (arith, fit, sum_room _ 224 at.v c.args.self.now.sides.nv at.total _ (row-most _ _ _ fit.u_most) at.invariant c.cross_row-total.ensures c.loop-v-test.true) }

pub loop-v-preserved : goal.loop-v-preserved
loop-v-preserved c = let at = c.loop-v in sum-turn _ at.v at.total _ at.invariant c.cross_row-total.ensures

pub returns : goal.returns
returns c = let at = c.loop-v in sum_done _ at.v _ at.total at.invariant at.auto.v-end c.loop-v-test.false ∙ cross_rows _ _ _
