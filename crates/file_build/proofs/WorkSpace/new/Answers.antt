-- `file_build::WorkSpace::new` meets its contract. Assumes nothing.
use mathlib.Core.Path.{refl}
use lib.Ieee.{of_bits}
use Rattle.file_build.specs.Asked.{blank}
use Rattle.file_build.proofs.WorkSpace.new.Goals as goal

pub returns : goal.returns
unfolding blank of_bits
returns c = refl
