-- `lattice::signed_difference` meets its contract. Assumes nothing.
use mir.Facts.{to_z-of_z}
use Rattle.lattice.proofs.Owner.{small_fits, small-read}
use Rattle.lattice.proofs.signed_difference.Goals as goal

pub overflow_sub-result : goal.overflow_sub-result
overflow_sub-result c = rw (small-read c.args.a c.requires.0, small-read c.args.b c.requires.1) (small_fits c.args.a c.args.b c.requires.0 c.requires.1)

pub returns : goal.returns
returns c = rw (small-read c.args.a c.requires.0, small-read c.args.b c.requires.1) (to_z-of_z (small_fits c.args.a c.args.b c.requires.0 c.requires.1))
