-- `topology::connected_components_masks` meets its contract. Assumes nothing.
use Rattle.std.proofs.Common.{arith}
use Rattle.topology.proofs.WalkLoops.{zeros-lt, inner_start, inner_turn, inner_few, inner_less, outer_start, outer_few, outer_room, outer_next, outer_fewer, outer_end}
use Rattle.topology.proofs.connected_components_masks.Goals as goal

pub comps-init : goal.comps-init
comps-init c = outer_start c.args.edge_mask

pub walk-init : goal.walk-init
walk-init c = let o = c.comps in
    inner_start o.remaining c.lowbit-seed.result o.visits (omega arith) o.invariant.short c.lowbit-seed.ensures

pub overflow_add-visits : goal.overflow_add-visits
overflow_add-visits c = let o = c.comps in
    omega (arith, inner_few _ _ _ _ _ _ c.walk.invariant, outer_few _ _ _ _ _ o.invariant)

pub neighbours_in-nbrs-requires : goal.neighbours_in-nbrs-requires
neighbours_in-nbrs-requires c = zeros-lt _ _ c.walk-test.true c.walk.invariant.walking.fr_short c.lowbit-b.ensures

pub walk-smaller : goal.walk-smaller
walk-smaller c = let w = c.walk in
    inner_less _ w.remaining w.comp w.frontier c.lowbit-b.result (omega arith) c.lowbit-b.ensures w.invariant

pub walk-preserved : goal.walk-preserved
walk-preserved c = let w = c.walk in
    inner_turn _ w.remaining w.comp w.frontier c.lowbit-b.result _ _ _ (omega arith) c.lowbit-b.ensures c.neighbours_in-nbrs.ensures w.invariant

pub bounds-masks-count : goal.bounds-masks-count
bounds-masks-count c = outer_room _ _ _ _ _ c.comps-test.true c.comps.invariant

pub comps-smaller : goal.comps-smaller
comps-smaller c = outer_fewer _ _ _ _ _ c.comps-test.true c.comps.invariant _ _ _ _ _ c.lowbit-seed.ensures c.walk-test.false c.walk.invariant

pub comps-preserved : goal.comps-preserved
comps-preserved c = outer_next _ _ _ _ _ c.comps-test.true c.comps.invariant _ _ _ _ _ c.lowbit-seed.ensures c.walk-test.false c.walk.invariant

pub returns : goal.returns
returns c = outer_end _ c.comps.remaining _ _ _ c.comps-test.false c.comps.invariant
