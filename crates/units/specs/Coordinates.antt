-- A whole number less the origin's, accepted within -10,000 to 10,000, ends included (docs/SCOPE.md, S12.1 and S12.3). Assumes nothing.
use Rattle.std.specs.Prelude.{Bool, false, cond, ℤ, pos, ◌-ℤ◌, nat_le, Option, Some, None}
use Rattle.std.proofs.Math.Option.{Option as Maybe, none, some}
use Rattle.laws.specs.Ints.{size_of}

-- accepted; where there is no whole number it is not
unfoldable pub within : Maybe ℤ → ℤ → Bool
within none o = false
within (some z) o = nat_le (size_of (z -ℤ o)) 10000

-- the difference, accepted or not
unfoldable pub less : Maybe ℤ → ℤ → ℤ
less none o = pos 0 -ℤ o
less (some z) o = z -ℤ o

unfoldable pub coordinate_of : Maybe ℤ → ℤ → Option ℤ
coordinate_of w o = cond (within w o) (Some (less w o)) None
