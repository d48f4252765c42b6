-- `volume::sum` meets its contract. Assumes nothing.
use native.Mathlib.Omega.{arith}
use Rattle.laws.proofs.Sizes.{add_ok}
use Rattle.volume.proofs.Determinants.{sum_ok, sum_is}
use Rattle.volume.proofs.sum.Goals as goal

pub overflow_add-result : goal.overflow_add-result
overflow_add-result c = add_ok _ _ 2000000000000 2000000000000 c.requires.0 c.requires.1 (omega arith) (omega arith) (omega arith)

pub overflow_add-result-2 : goal.overflow_add-result-2
overflow_add-result-2 c = sum_ok _ _ _ c.requires.0 c.requires.1 c.requires.2

pub returns : goal.returns
returns c = sum_is _ _ _ c.requires.0 c.requires.1 c.requires.2
