-- `tables::are_neighbours` meets its contract. Assumes nothing.
use mathlib.Core.Path.{◌∙◌}
use Rattle.tables.proofs.Neighbours.{edge-small, differ_neighbours}
use Rattle.tables.proofs.are_neighbours.Goals as goal

pub differ_by_delta-requires : goal.differ_by_delta-requires
differ_by_delta-requires c = (edge-small _ _ c.edge_delta.ensures c.requires.0, edge-small _ _ c.edge_delta-2.ensures c.requires.1)

pub returns : goal.returns
returns c = c.differ_by_delta.ensures
    ∙ differ_neighbours _ _ _ _ c.edge_delta.ensures c.edge_delta-2.ensures c.requires.0 c.requires.1
