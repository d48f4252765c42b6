-- `volume::times` meets its contract. Assumes nothing.
use native.Mathlib.Omega.{arith}
use Rattle.laws.proofs.Sizes.{mul_ok}
use Rattle.volume.proofs.Determinants.{times_sized}
use Rattle.volume.proofs.times.Goals as goal

pub overflow_mul-result : goal.overflow_mul-result
overflow_mul-result c = mul_ok _ _ 10000 200000000 c.requires.0 c.requires.1 (omega arith) (omega arith) (omega arith)

pub returns : goal.returns
returns c = times_sized _ _ c.requires.0 c.requires.1
