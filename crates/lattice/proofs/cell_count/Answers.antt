-- `lattice::cell_count` meets its contract. Assumes nothing.
use mathlib.Core.Path.{refl}
use Rattle.lattice.specs.Sites.{cells}
use native.Mathlib.Omega.{arith}
use Rattle.lattice.proofs.Sites.{cells-room}
use Rattle.lattice.proofs.cell_count.Goals as goal

pub overflow_mul-result : goal.overflow_mul-result
overflow_mul-result c = record { fits = omega (arith, cells-room c.args.n c.requires) }

pub overflow_mul-result-2 : goal.overflow_mul-result-2
overflow_mul-result-2 c = record { fits = omega (arith, cells-room c.args.n c.requires) }

pub returns : goal.returns
unfolding cells
returns c = refl
