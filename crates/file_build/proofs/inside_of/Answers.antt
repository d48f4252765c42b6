-- `file_build::inside_of` meets its contract. Assumes nothing.
use Rattle.file_build.specs.Asked.{head_inside}
use Rattle.file_build.proofs.inside_of.Goals as goal

pub returns : goal.returns
unfolding head_inside
returns c = c.float_of_bits.ensures
