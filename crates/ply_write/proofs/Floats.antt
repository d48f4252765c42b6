-- Floats written by their bits: the floats of these words are the floats. Assumes nothing.
use mathlib.Core.Path.{◌≡◌, refl, ap₂}
use mathlib.Core.List.{List, [], ◌∷◌, map}
use lib.Dec.{T}
use lib.Ieee.{Float, binary64, fits, of_bits}
use Rattle.laws.specs.Lists.{All}
use Rattle.points.proofs.Bits.{float-again}
use Rattle.ply_write.specs.Answers.{bits_of}

-- the floats of the words are the floats that were written
pub floats_again : (ps : List Float) → All (λ x. T (fits binary64 x)) ps → map (of_bits binary64) (bits_of ps) ≡ ps
unfolding All
floats_again [] a = refl
floats_again (x ∷ ps) a = ap₂ (λ (y : Float) (l : List Float). y ∷ l) (float-again x a.0) (floats_again ps a.1)
