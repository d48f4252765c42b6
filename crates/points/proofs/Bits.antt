-- Floats and their bits, there and back: no pattern but a NaN's is lost. Assumes nothing.
use mathlib.Core.Path.{◌≡◌, refl}
use mathlib.Core.Bool.{false, not, true≢false}
use Prim.Native.Nat.{ℕ, ◌^◌, ◌<◌}
use lib.Dec.{T}
use lib.Ieee.{Float, nan, inf, fin, binary64, is_nan, fits, of_bits, to_bits, div, ne}
use lib.Ieee.Bits.{of_bits-to_bits, to_bits-of_bits}

pub only_nan : (x : Float) → T (is_nan x) → x ≡ nan
unfolding is_nan
only_nan nan t = refl
only_nan (inf s) t = absurd t
only_nan (fin s m e) t = absurd t

pub zero_over_zero : div binary64 (of_bits binary64 0) (of_bits binary64 0) ≡ nan
unfolding div of_bits
zero_over_zero = refl

pub nan_pattern : to_bits binary64 nan ≡ 0x7ff8000000000000
unfolding to_bits
nan_pattern = refl

-- what equals itself is no NaN
pub same_number : (x : Float) → ne x x ≡ false → T (not (is_nan x))
unfolding ne is_nan
same_number nan e = absurd (true≢false e)
same_number (inf s) e = tt
same_number (fin s m k) e = tt

-- the bits of a float give the float again, and the float of a pattern that is no NaN's has that pattern
pub float-again : (x : Float) → T (fits binary64 x) → of_bits binary64 (to_bits binary64 x) ≡ x
float-again x h = of_bits-to_bits binary64 x h

pub bits-again : (n : ℕ) → n < 2 ^ 64 → T (not (is_nan (of_bits binary64 n))) → to_bits binary64 (of_bits binary64 n) ≡ n
bits-again n h t = to_bits-of_bits binary64 n h t
