-- `vertex_pass::empty_table` meets its contract. Assumes nothing.
use Rattle.std.proofs.Common.{rules}
use Rattle.march.specs.March.{none}
use Rattle.vertex_pass.proofs.empty_table.Goals as goal

pub returns : goal.returns
unfolding none
returns c = search rules
