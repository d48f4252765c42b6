-- `lattice::site_number` meets its contract. Assumes nothing.
use native.Mathlib.Omega.{arith}
use mathlib.Core.Path.{refl}
use Rattle.lattice.specs.Sites.{site_of}
use Rattle.lattice.proofs.Sites.{site_room_lem}
use Rattle.lattice.proofs.site_number.Goals as goal

pub overflow_mul-result : goal.overflow_mul-result
overflow_mul-result c = record { fits = omega (arith, site_room_lem c.args.n c.args.p c.requires.0 c.requires.1, c.requires.0, c.requires.1) }

pub overflow_add-result : goal.overflow_add-result
overflow_add-result c = record { fits = omega (arith, site_room_lem c.args.n c.args.p c.requires.0 c.requires.1, c.requires.0, c.requires.1) }

pub overflow_mul-result-2 : goal.overflow_mul-result-2
overflow_mul-result-2 c = record { fits = omega (arith, site_room_lem c.args.n c.args.p c.requires.0 c.requires.1, c.requires.0, c.requires.1) }

pub overflow_add-result-2 : goal.overflow_add-result-2
overflow_add-result-2 c = record { fits = omega (arith, site_room_lem c.args.n c.args.p c.requires.0 c.requires.1, c.requires.0, c.requires.1) }

pub returns : goal.returns
unfolding site_of
returns c = refl
