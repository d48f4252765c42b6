-- `tables::mt_edge` meets its contract. Assumes nothing.
use Rattle.tables.proofs.Source.{row_at}
use Rattle.tables.proofs.mt_edge.Goals as goal

pub returns : goal.returns
returns c = row_at _ _ c.requires.0 c.requires.1
