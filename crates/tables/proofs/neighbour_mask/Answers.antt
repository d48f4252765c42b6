-- `tables::neighbour_mask` meets its contract. Assumes nothing.
use mathlib.Core.Path.{◌∙◌}
use native.Mathlib.Nat.{mod-eq_of_lt}
use lib.Bits.{and_mask}
use Rattle.tables.proofs.Edges.{neighbour_lt}
use Rattle.tables.proofs.neighbour_mask.Goals as goal

pub returns : goal.returns
returns c = c.neighbours_in.ensures ∙ (and_mask _ 14 ∙ mod-eq_of_lt (neighbour_lt _))
