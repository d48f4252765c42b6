-- `tables::tet_slot` meets its contract. Assumes nothing.
use Rattle.tables.proofs.Source.{slot_at}
use Rattle.tables.proofs.tet_slot.Goals as goal

pub returns : goal.returns
returns c = slot_at _ _ c.requires.0 c.requires.1
