-- `file_build::floats_of` meets its contract: each float is that of its bits. Assumes nothing.
use native.Mathlib.Omega.{arith}
use lib.Ieee.{binary64, of_bits}
use Rattle.std.proofs.Common.{rules}
use Rattle.laws.proofs.Arrays.{mapped}
use Rattle.file_build.specs.Asked.{floats_of}
use Rattle.file_build.proofs.floats_of.Goals as goal

pub returns : goal.returns
unfolding floats_of
returns c = mapped _ _ (of_bits binary64) 0 c.args.bits c.map.result 216 (omega (arith, c.well_formed.0.1.0.1)) c.map.ensures.items (λ p q x y k. search rules)
