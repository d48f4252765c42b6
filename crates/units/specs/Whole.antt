-- The whole number nearest to a float, a tie to the even one (docs/SCOPE.md, S12.1). Assumes nothing.
use Rattle.std.specs.Prelude.{◌≡◌, ℕ, ◌+◌, ◌*◌, ◌%◌, ◌≤◌, ℤ, Float}
use Rattle.std.proofs.Math.Option.{Option, none, some}
use Rattle.std.specs.Float.{nan, inf, fin}
use Rattle.std.specs.Float.Ieee.{up, down}
use Rattle.std.specs.Float.Ieee.Nearest.{closest}
use Rattle.laws.specs.Ints.{signed}

-- Of a finite float, whose size is the fraction m * up e / down e; `closest n d` is the whole number nearest to n / d. A NaN and the infinities have none.
unfoldable pub whole_of : Float → Option ℤ
whole_of nan = none
whole_of (inf s) = none
whole_of (fin s m e) = some (signed s (closest (m * up e) (down e)))

-- What that means, without `closest`: c is at most a half from n / d, and even where it is just a half from it (`whole_nearest`); no other number is
-- (`nearest_only`).
pub record Nearest (n d c : ℕ) : Type 0 where
  pub low : 2 * n ≤ 2 * (c * d) + d
  pub high : 2 * (c * d) ≤ 2 * n + d
  pub tie_low : 2 * n ≡ 2 * (c * d) + d → c % 2 ≡ 0
  pub tie_high : 2 * (c * d) ≡ 2 * n + d → c % 2 ≡ 0
