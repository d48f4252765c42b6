-- `topology::is_flat_hole` meets its contract: a law for each way to the next row. Assumes nothing.
use Rattle.tables.proofs.Source.{hole_edges, hole_opposite}
use Rattle.topology.proofs.Rows.{rows_start, rows_end, pass_edges, pass_opposite, pair-fits, row-flat, pass-pair}
use Rattle.topology.proofs.is_flat_hole.Goals as goal

pub rows-init : goal.rows-init
rows-init c = rows_start _ _ _

pub rows-preserved-then-surface_comp-edge_mask-ne0 : goal.rows-preserved-then-surface_comp-edge_mask-ne0
rows-preserved-then-surface_comp-edge_mask-ne0 c = let l = c.rows-test.true in let e = c.flat_hole_rows-rows.ensures in
    pass_edges _ _ _ _ l c.rows.invariant _ _ (hole_edges _ _ e l) (hole_opposite _ _ e l) c.if-surface_comp-edge_mask-ne0.true

pub rows-preserved-then-surface_comp-opposite_mask : goal.rows-preserved-then-surface_comp-opposite_mask
rows-preserved-then-surface_comp-opposite_mask c = let l = c.rows-test.true in let e = c.flat_hole_rows-rows.ensures in
    pass_opposite _ _ _ _ l c.rows.invariant _ _ (hole_edges _ _ e l) (hole_opposite _ _ e l) c.if-surface_comp-edge_mask-ne0.false c.if-surface_comp-opposite_mask.true

pub pairs_collapse-requires : goal.pairs_collapse-requires
pairs_collapse-requires c = let l = c.rows-test.true in let e = c.flat_hole_rows-rows.ensures in
    pair-fits c.args.surface_comp c.args.ends c.args.h _ l c.rows.invariant _ _ (hole_edges _ _ e l) (hole_opposite _ _ e l) _ _ c.two_edge_indices-off.ensures c.two_edge_indices-on.ensures

pub returns-then-pairs_collapse : goal.returns-then-pairs_collapse
returns-then-pairs_collapse c = let l = c.rows-test.true in let e = c.flat_hole_rows-rows.ensures in
    row-flat c.args.surface_comp c.args.ends c.args.h _ l c.rows.invariant _ _ (hole_edges _ _ e l) (hole_opposite _ _ e l) _ _ c.two_edge_indices-off.ensures c.two_edge_indices-on.ensures
    c.if-surface_comp-edge_mask-ne0.false c.if-surface_comp-opposite_mask.false _ c.pairs_collapse.ensures c.if-pairs_collapse.true

pub rows-preserved : goal.rows-preserved
rows-preserved c = let l = c.rows-test.true in let e = c.flat_hole_rows-rows.ensures in
    pass-pair c.args.surface_comp c.args.ends c.args.h _ l c.rows.invariant _ _ (hole_edges _ _ e l) (hole_opposite _ _ e l) _ _ c.two_edge_indices-off.ensures c.two_edge_indices-on.ensures
    c.if-surface_comp-edge_mask-ne0.false c.if-surface_comp-opposite_mask.false _ c.pairs_collapse.ensures c.if-pairs_collapse.false

pub returns : goal.returns
returns c = rows_end _ _ _ c.rows.row-index c.rows-test.false c.rows.invariant
