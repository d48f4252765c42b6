-- `marks::Field::cross_row` meets its contract. Assumes nothing.
use native.Mathlib.Omega.{arith}
use mathlib.Core.Path.{sym}
use Rattle.laws.proofs.Sums.{sum-none, sum-turn, sum_done, sum_room}
use Rattle.marks.specs.Inner.Loops.{cross_row}
use Rattle.marks.proofs.Rooms.{row-site, row-box, site-most}
use Rattle.marks.proofs.Field.cross_row.Goals as goal

pub loop-u-init : goal.loop-u-init
loop-u-init c = sym (sum-none _)

pub cross_site-total-requires : goal.cross_site-total-requires
cross_site-total-requires c = let field = c.args.self.now in
    record { sampled = field.sampled; in_box = (row-box field.sides c.loop-u.u c.args.v field.sampled.fit c.loop-u-test.true c.requires, row-site field.sides c.loop-u.u c.args.v) }

pub overflow_add-total : goal.overflow_add-total
overflow_add-total c = let at = c.loop-u in
    let n = c.args.self.now.sides in
    record { fits = omega (arith, c.args.self.now.sampled.fit, sum_room _ 7 at.u n.nu at.total _ (λ i. site-most _ _ _ _) at.invariant c.cross_site-total.ensures c.loop-u-test.true) }

pub loop-u-preserved : goal.loop-u-preserved
loop-u-preserved c = let at = c.loop-u in
    sum-turn _ at.u at.total _ at.invariant c.cross_site-total.ensures

pub returns : goal.returns
unfolding cross_row
returns c = let at = c.loop-u in sum_done _ at.u _ at.total at.invariant at.auto.u-end c.loop-u-test.false
