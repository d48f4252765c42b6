-- `marks::Field::crossed` meets its contract. Assumes nothing.
use native.Mathlib.Omega.{arith}
use mathlib.Core.Path.{sym, ◌∙◌}
use Rattle.laws.proofs.Sums.{sum-none, sum-turn, sum_done, sum_room}
use Rattle.marks.proofs.Rooms.{layer_count-most, layers-count}
use Rattle.marks.proofs.Field.crossed.Goals as goal

pub loop-w-init : goal.loop-w-init
loop-w-init c = sym (sum-none _)

pub overflow_add-total : goal.overflow_add-total
overflow_add-total c = let at = c.loop-w in
    let fit = c.args.self.now.sampled.fit in
    let part = c.from_layer.ensures in
    let one = rw (part.sides, part.samples, part.threshold) at c.cross_layer-total.ensures in
    record { fits = omega (arith, fit, sum_room _ 7168 at.w c.args.self.now.sides.nw at.total _ (λ i. layer_count-most _ _ _ fit.u_most fit.v_most) at.invariant one c.loop-w-test.true) }

pub loop-w-preserved : goal.loop-w-preserved
loop-w-preserved c = let at = c.loop-w in
    let part = c.from_layer.ensures in
    sum-turn _ at.w at.total _ at.invariant (rw (part.sides, part.samples, part.threshold) at c.cross_layer-total.ensures)

pub returns : goal.returns
returns c = let at = c.loop-w in sum_done _ at.w _ at.total at.invariant at.auto.w-end c.loop-w-test.false ∙ layers-count _ _ _ c.args.self.now.sampled.fit
