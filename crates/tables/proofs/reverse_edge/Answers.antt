-- `tables::reverse_edge` meets its contract. Assumes nothing.
use Rattle.tables.proofs.Source.{reverse-at}
use Rattle.tables.proofs.reverse_edge.Goals as goal

pub returns : goal.returns
returns c = reverse-at _ c.requires
