-- `tables::tet_corner` meets its contract. Assumes nothing.
use Rattle.tables.proofs.Source.{corner_at_lem}
use Rattle.tables.proofs.tet_corner.Goals as goal

pub returns : goal.returns
returns c = corner_at_lem _ _ c.requires.0 c.requires.1
