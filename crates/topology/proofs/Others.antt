-- The edges without a near intersection are the others of the fourteen: each edge is in the mask or in these, and together they are fourteen. Assumes nothing.
use Rattle.std.proofs.Common.{◌≡◌, ℕ, ◌+◌, ◌-◌, ◌^◌, ◌<◌, arith}
use lib.Bits.{and_le_l}
use lib.Count.{ones_in}
use Rattle.laws.specs.Digits.{digit}
use Rattle.laws.proofs.Digits.{digit_lt, digit_and, digit-all, digit_compl, ones_all}
use Rattle.topology.specs.Topology.{others}

pub others-digit : (m e : ℕ) → m < 2 ^ 16 → e < 14 → digit m e + digit (others m) e ≡ 1
others-digit m e h l =
    let c : digit m e + digit (0xFFFF - m) e ≡ 1 = digit_compl 16 m (0xFFFF - m) e (omega arith) (omega arith) in
    omega (arith, digit_and 0x3FFF (0xFFFF - m) e, digit-all 14 e l, digit_lt m e)

pub others-lt : (m : ℕ) → others m < 2 ^ 14
others-lt m = omega (arith, and_le_l 0x3FFF (0xFFFF - m))

pub others_ones : (m : ℕ) → m < 2 ^ 16 → ones_in 14 m + ones_in 14 (others m) ≡ 14
others_ones m h = ones_all 14 m (others m) (λ e l. others-digit m e h l)
