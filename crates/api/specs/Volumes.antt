-- What the function of the volume answers to a caller from C or Rust: the status as the result, the sum in a list of one. Assumes nothing.
use Rattle.std.specs.Prelude.{◌≡◌, List, [], ◌∷◌, ℕ, ℤ, pos, get_or, Float}
use Rattle.volume.specs.declared.Whole.{Whole}
use Rattle.volume.specs.Volume.{volume_of}

-- three numbers: the origin
unfoldable pub whole_at : List ℤ → Whole
whole_at l = record { x = get_or l 0 (pos 0); y = get_or l 1 (pos 0); z = get_or l 2 (pos 0) }

-- r and the list n are the answer
pub record VolumeTold (P : List Float) (T : List ℕ) (s : Float) (o : List ℤ) (r : ℕ) (n : List ℤ) : Type 0 where
  pub status : r ≡ (volume_of P T s (whole_at o)).status
  pub six : n ≡ (volume_of P T s (whole_at o)).six ∷ []
