-- `tables::edge_delta` meets its contract. Assumes nothing.
use mathlib.Core.Path.{◌∙◌}
use Rattle.tables.specs.Edges.{deltas}
use Rattle.tables.proofs.Source.{row-delta}
use Rattle.tables.proofs.edge_delta.Goals as goal

pub returns : goal.returns
unfolding deltas
returns c = c.offset_of.ensures ∙ row-delta _ c.requires
