-- `topology::do_not_cluster` meets its contract. Assumes nothing.
use Rattle.topology.proofs.Singles.{left-start, left-bit, left-room, left-turn, left_less, left_end}
use Rattle.topology.proofs.do_not_cluster.Goals as goal

pub loop-left-init : goal.loop-left-init
loop-left-init c = left-start c.args.edge_mask

pub bounds-masks-count : goal.bounds-masks-count
bounds-masks-count c = left-room _ _ _ _ c.loop-left-test.true c.loop-left.invariant

pub loop-left-smaller : goal.loop-left-smaller
loop-left-smaller c = left_less _ _ _ _ c.loop-left-test.true c.loop-left.invariant _ (left-bit _ _ _ _ c.loop-left-test.true c.loop-left.invariant)

pub loop-left-preserved : goal.loop-left-preserved
loop-left-preserved c = left-turn _ _ _ _ c.loop-left-test.true c.loop-left.invariant _ (left-bit _ _ _ _ c.loop-left-test.true c.loop-left.invariant)

pub returns : goal.returns
returns c = left_end _ _ _ _ c.loop-left-test.false c.loop-left.invariant
