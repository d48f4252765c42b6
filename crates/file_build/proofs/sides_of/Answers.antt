-- `file_build::sides_of` meets its contract. Assumes nothing.
use mathlib.Core.Path.{refl}
use Rattle.file_build.specs.Asked.{head_sides}
use Rattle.file_build.proofs.sides_of.Goals as goal

pub returns : goal.returns
unfolding head_sides
returns c = refl
