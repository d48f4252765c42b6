-- `tables::flat_hole_rows` meets its contract: the rows of the source are those of the rule, by computing. Assumes nothing.
use mathlib.Core.Path.{refl}
use Rattle.laws.specs.Bools.{bit}
use Rattle.tables.specs.Edges.{are_neighbours}
use Rattle.tables.specs.FlatHoles.{flat_holes, hole_of}
use Rattle.tables.proofs.flat_hole_rows.Goals as goal

pub returns : goal.returns
unfolding flat_holes hole_of are_neighbours bit
returns c = refl
