-- `tables::mt_count` meets its contract. Assumes nothing.
use Rattle.tables.proofs.Source.{count_at}
use Rattle.tables.proofs.mt_count.Goals as goal

pub returns : goal.returns
returns c = count_at _ c.requires
