-- Marks: bit e of the mask at a site is set if the edge's other end is in the box, the sides differ, and the surface is nearer to this end:
-- for the owner's labels 0 to 6 its fraction is below 0.5, for the labels 7 to 13 the owner's fraction is not (0.5 itself and NaN mark the other end).
-- Assumes nothing.
use Rattle.std.specs.Prelude.{Bool, false, not, cond, List, [], ◌∷◌, ℕ, ltb, get_or, Float, Option, None, Some}
use Rattle.std.specs.Float.{nan}
use Rattle.std.specs.Float.Ieee.{lt}
use Rattle.laws.specs.Bools.{bit}
use Rattle.laws.specs.Ranges.{each, sum}
use Rattle.laws.specs.Digits.{mask}
use Rattle.samples.specs.Sides.{half, crossing, near, crosses}
use Rattle.lattice.specs.declared.Sides.{Sides}
use Rattle.lattice.specs.Sites.{sites}
use Rattle.lattice.specs.Across.{across_of}

-- a site's sample
abbrev pub sample : List Float → ℕ → Float
sample S s = get_or S s nan

-- the crossing is not nearer to the first end
abbrev pub beyond : Option Float → Bool
beyond None = false
beyond (Some t) = not (lt t half)

-- whether edge e marks site s, where its other end is
unfoldable pub marked_by : List Float → Float → ℕ → ℕ → Option ℕ → Bool
marked_by S h s e None = false
marked_by S h s e (Some t) = cond (ltb e 7) (near (crossing (sample S s) (sample S t) h)) (beyond (crossing (sample S t) (sample S s) h))

unfoldable pub marked : Sides → List Float → Float → ℕ → ℕ → Bool
marked n S h s e = marked_by S h s e (across_of n s e)

-- the mask of a site, and the masks of the box
unfoldable pub mask_at : Sides → List Float → Float → ℕ → ℕ
mask_at n S h s = mask 14 (marked n S h s)

unfoldable pub masks_of : Sides → List Float → Float → List ℕ
masks_of n S h = each (sites n) (λ s. mask_at n S h s ∷ [])

-- whether the owned edge l of site s has both ends in the box, on different sides; and E, how many have
unfoldable pub crossed_by : List Float → Float → ℕ → Option ℕ → Bool
crossed_by S h s None = false
crossed_by S h s (Some t) = crosses (crossing (sample S s) (sample S t) h)

unfoldable pub is_crossed : Sides → List Float → Float → ℕ → ℕ → Bool
is_crossed n S h s l = crossed_by S h s (across_of n s l)

unfoldable pub crossed_count : Sides → List Float → Float → ℕ
crossed_count n S h = sum (sites n) (λ s. sum 7 (λ l. bit (is_crossed n S h s l)))
