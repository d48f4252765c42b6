-- `marks::set_bit` meets its contract. Assumes nothing.
use Prim.Native.Nat.{◌<◌}
use native.Mathlib.Nat.{one-mul, mod-eq_of_lt}
use native.Mathlib.Omega.{arith}
use lib.Pow.{pow-lt}
use Rattle.marks.specs.Inner.Loops.{set_bit}
use Rattle.marks.proofs.set_bit.Goals as goal

pub returns : goal.returns
unfolding set_bit
returns c = let b = c.args.bit in
    let small : b < 16 = omega arith in
    rw (one-mul, mod-eq_of_lt (pow-lt small))
