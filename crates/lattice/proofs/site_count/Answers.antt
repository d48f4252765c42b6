-- `lattice::site_count` meets its contract. Assumes nothing.
use native.Mathlib.Omega.{arith}
use mathlib.Core.Path.{refl}
use Rattle.lattice.specs.Sites.{sites}
use Rattle.lattice.proofs.Sites.{layer_most, sites-most}
use Rattle.lattice.proofs.site_count.Goals as goal

pub overflow_mul-result : goal.overflow_mul-result
overflow_mul-result c = record { fits = omega (arith, layer_most c.args.n c.requires) }

pub overflow_mul-result-2 : goal.overflow_mul-result-2
unfolding sites
overflow_mul-result-2 c = record { fits = omega (arith, sites-most c.args.n c.requires) }

pub returns : goal.returns
unfolding sites
returns c = refl
