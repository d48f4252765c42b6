-- `tables::label_corner` meets its contract. Assumes nothing.
use Prim.Native.Nat.{◌*◌, ◌/◌, ◌%◌, ◌^◌}
use Rattle.laws.specs.Ranges.{all}
use Rattle.laws.proofs.Ranges.{same_at}
use Rattle.tables.specs.Edges.{corner_of}
use Rattle.tables.proofs.label_corner.Goals as goal

pub returns : goal.returns
unfolding all corner_of
returns c = same_at 7 (λ l. 0x04675231 / 2 ^ (4 * l) % 8) corner_of tt _ c.requires
