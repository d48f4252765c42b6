-- `volume::minor` meets its contract. Assumes nothing.
use native.Mathlib.Omega.{arith}
use Rattle.laws.proofs.Sizes.{mul_ok}
use Rattle.volume.proofs.Determinants.{minor_ok, minor_sized}
use Rattle.volume.proofs.minor.Goals as goal

pub overflow_mul-result : goal.overflow_mul-result
overflow_mul-result c = mul_ok _ _ 10000 10000 c.requires.0 c.requires.3 (omega arith) (omega arith) (omega arith)

pub overflow_mul-result-2 : goal.overflow_mul-result-2
overflow_mul-result-2 c = mul_ok _ _ 10000 10000 c.requires.1 c.requires.2 (omega arith) (omega arith) (omega arith)

pub overflow_sub-result : goal.overflow_sub-result
overflow_sub-result c = minor_ok _ _ _ _ c.requires.0 c.requires.1 c.requires.2 c.requires.3

pub returns : goal.returns
returns c = minor_sized _ _ _ _ c.requires.0 c.requires.1 c.requires.2 c.requires.3
