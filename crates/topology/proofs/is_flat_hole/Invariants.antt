-- The invariant and the measure of each loop of `topology::is_flat_hole`. Assumes nothing.
use Rattle.std.proofs.Common.{◌-◌}
use Rattle.topology.proofs.Rows.{NoneSo}
use Rattle.topology.proofs.is_flat_hole.Given as goal

abbrev pub invariant-rows : goal.invariant-rows
invariant-rows l = NoneSo l.surface_comp l.ends l.h l.row-index

abbrev pub decreases-rows : goal.decreases-rows
decreases-rows l = 36 - l.row-index
