-- `tables::neighbours_in` meets its contract. Assumes nothing.
use mathlib.Core.Path.{◌∙◌}
use Rattle.tables.specs.Edges.{deltas}
use Rattle.tables.proofs.Source.{row-delta}
use Rattle.tables.proofs.Neighbours.{edge-small, differ_neighbours, ask_start, low_14, ask_turn, ask_less, ask_end}
use Rattle.tables.proofs.neighbours_in.Goals as goal

pub loop-left-init : goal.loop-left-init
loop-left-init c = ask_start _ _

pub bounds-rows-f : goal.bounds-rows-f
bounds-rows-f c = low_14 _ _ _ _ c.loop-left-test.true c.loop-left.invariant

pub differ_by_delta-near-requires : goal.differ_by_delta-near-requires
unfolding deltas
differ_by_delta-near-requires c = let low = low_14 _ _ _ _ c.loop-left-test.true c.loop-left.invariant in
    (edge-small _ _ (c.offset_of-d.ensures ∙ row-delta _ c.requires) c.requires, edge-small _ _ (c.offset_of-g.ensures ∙ row-delta _ low) low)

pub loop-left-smaller : goal.loop-left-smaller
loop-left-smaller c = ask_less _ _ _ _ c.loop-left-test.true c.loop-left.invariant

pub loop-left-preserved : goal.loop-left-preserved
unfolding deltas
loop-left-preserved c = let low = low_14 _ _ _ _ c.loop-left-test.true c.loop-left.invariant in
    ask_turn _ _ _ _ c.loop-left-test.true c.loop-left.invariant _
    (c.differ_by_delta-near.ensures
    ∙ differ_neighbours _ _ _ _ (c.offset_of-d.ensures ∙ row-delta _ c.requires) (c.offset_of-g.ensures ∙ row-delta _ low) c.requires low)

pub returns : goal.returns
returns c = ask_end _ _ _ _ c.loop-left-test.false c.loop-left.invariant
