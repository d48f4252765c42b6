-- A table of examples: what is read of some bytes, each limit just in and just out, and how some numbers are printed. Assumes nothing.
use Rattle.std.specs.Prelude.{◌≡◌, [], ◌∷◌, pos, negsuc, Some, None}
use Rattle.decimals.specs.Decimals.{decimal}
use Rattle.decimals.specs.Readers.{NaturalOf, SignedOf}

pub record Examples : Type 0 where
  -- 0, 7, -1
  pub nought : SignedOf (48 ∷ []) (Some (pos 0))
  pub seven : SignedOf (55 ∷ []) (Some (pos 7))
  pub minus_one : SignedOf (45 ∷ 49 ∷ []) (Some (negsuc 0))
  -- 9223372036854775807 and one more, -9223372036854775808 and one less
  pub most : SignedOf (57 ∷ 50 ∷ 50 ∷ 51 ∷ 51 ∷ 55 ∷ 50 ∷ 48 ∷ 51 ∷ 54 ∷ 56 ∷ 53 ∷ 52 ∷ 55 ∷ 55 ∷ 53 ∷ 56 ∷ 48 ∷ 55 ∷ []) (Some (pos 9223372036854775807))
  pub over_most : SignedOf (57 ∷ 50 ∷ 50 ∷ 51 ∷ 51 ∷ 55 ∷ 50 ∷ 48 ∷ 51 ∷ 54 ∷ 56 ∷ 53 ∷ 52 ∷ 55 ∷ 55 ∷ 53 ∷ 56 ∷ 48 ∷ 56 ∷ []) None
  pub least : SignedOf (45 ∷ 57 ∷ 50 ∷ 50 ∷ 51 ∷ 51 ∷ 55 ∷ 50 ∷ 48 ∷ 51 ∷ 54 ∷ 56 ∷ 53 ∷ 52 ∷ 55 ∷ 55 ∷ 53 ∷ 56 ∷ 48 ∷ 56 ∷ []) (Some (negsuc 9223372036854775807))
  pub under-least : SignedOf (45 ∷ 57 ∷ 50 ∷ 50 ∷ 51 ∷ 51 ∷ 55 ∷ 50 ∷ 48 ∷ 51 ∷ 54 ∷ 56 ∷ 53 ∷ 52 ∷ 55 ∷ 55 ∷ 53 ∷ 56 ∷ 48 ∷ 57 ∷ []) None
  -- -0, 007, -07, a minus alone, +5, nothing, a space before or behind, a letter
  pub minus_nought : SignedOf (45 ∷ 48 ∷ []) None
  pub zeros : SignedOf (48 ∷ 48 ∷ 55 ∷ []) None
  pub minus_zeros : SignedOf (45 ∷ 48 ∷ 55 ∷ []) None
  pub minus_alone : SignedOf (45 ∷ []) None
  pub plus : SignedOf (43 ∷ 53 ∷ []) None
  pub nothing : SignedOf [] None
  pub space_before : SignedOf (32 ∷ 53 ∷ []) None
  pub space_behind : SignedOf (53 ∷ 32 ∷ []) None
  pub letter : SignedOf (53 ∷ 97 ∷ []) None
  -- 18446744073709551615 and one more, without a sign; a minus is none there
  pub widest : NaturalOf (49 ∷ 56 ∷ 52 ∷ 52 ∷ 54 ∷ 55 ∷ 52 ∷ 52 ∷ 48 ∷ 55 ∷ 51 ∷ 55 ∷ 48 ∷ 57 ∷ 53 ∷ 53 ∷ 49 ∷ 54 ∷ 49 ∷ 53 ∷ []) (Some 18446744073709551615)
  pub wider : NaturalOf (49 ∷ 56 ∷ 52 ∷ 52 ∷ 54 ∷ 55 ∷ 52 ∷ 52 ∷ 48 ∷ 55 ∷ 51 ∷ 55 ∷ 48 ∷ 57 ∷ 53 ∷ 53 ∷ 49 ∷ 54 ∷ 49 ∷ 54 ∷ []) None
  pub no_minus : NaturalOf (45 ∷ 49 ∷ []) None
  -- printed: 216 with no digit behind a point, 1234.567, 0.000005, 0.000
  pub whole : decimal 0 216 ≡ 50 ∷ 49 ∷ 54 ∷ []
  pub milli : decimal 3 1234567 ≡ 49 ∷ 50 ∷ 51 ∷ 52 ∷ 46 ∷ 53 ∷ 54 ∷ 55 ∷ []
  pub small : decimal 6 5 ≡ 48 ∷ 46 ∷ 48 ∷ 48 ∷ 48 ∷ 48 ∷ 48 ∷ 53 ∷ []
  pub none : decimal 3 0 ≡ 48 ∷ 46 ∷ 48 ∷ 48 ∷ 48 ∷ []
