-- `tables::tet_label` meets its contract. Assumes nothing.
use mathlib.Core.Path.{refl}
use Rattle.tables.specs.Tets.{tet_label}
use Rattle.tables.proofs.tet_label.Goals as goal

pub returns : goal.returns
unfolding tet_label
returns c = refl
