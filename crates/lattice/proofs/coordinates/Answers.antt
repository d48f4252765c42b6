-- `lattice::coordinates` meets its contract. Assumes nothing.
use mathlib.Core.Path.{refl}
use Rattle.lattice.specs.Sites.{uvw_of}
use Rattle.lattice.proofs.coordinates.Goals as goal

pub returns : goal.returns
unfolding uvw_of
returns c = refl
