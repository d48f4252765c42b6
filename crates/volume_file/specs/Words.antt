-- The words that the volume program is given: how many digits, and the whole origin in decimal. Assumes nothing.
use Rattle.std.specs.Prelude.{◌≡◌, List, ℕ, ◌<◌, ℤ, Option, Some, None}
use Rattle.std.specs.Int.{w64}
use Rattle.std.proofs.Common.{SFits}
use Rattle.lines.specs.Numbers.{dec}
use Rattle.decimals.specs.Decimals.{signed_dec}
use Rattle.volume_file.specs.declared.Words.{Words}

-- four words say 0 to 6 digits and the origin (x, y, z)
pub record Say (wd wx wy wz : List ℕ) (d : ℕ) (x y z : ℤ) : Type 0 where
  pub digits : wd ≡ dec d
  pub few : d < 7
  pub is_x : wx ≡ signed_dec x
  pub is_y : wy ≡ signed_dec y
  pub is_z : wz ≡ signed_dec z
  pub fits_x : SFits w64 x
  pub fits_y : SFits w64 y
  pub fits_z : SFits w64 z

abbrev pub words : ℕ → ℤ → ℤ → ℤ → Words
words d x y z = record { digits = d; origin = record { x = x; y = y; z = z } }

pub data WordsOf (wd wx wy wz : List ℕ) : Option Words → Type 0 where
  right : (d : ℕ) (x y z : ℤ) → Say wd wx wy wz d x y z → WordsOf wd wx wy wz (Some (words d x y z))
  wrong : ((d : ℕ) (x y z : ℤ) → Say wd wx wy wz d x y z → ⊥) → WordsOf wd wx wy wz None
