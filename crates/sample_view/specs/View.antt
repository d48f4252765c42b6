-- What a view of the samples answers: the value at a site number, at (u, v, w), and across an edge.
-- It is missing for a box whose sides do not fit, outside the box, and past the end of the samples. Assumes nothing.
use Rattle.std.specs.Prelude.{◌&&◌, cond, List, ℕ, ltb, length, get_or, Float, Option, None, Some}
use Rattle.std.specs.Float.{nan}
use Rattle.lattice.specs.declared.Sides.{Sides}
use Rattle.lattice.specs.Sites.{sides_ok, sites, in_box, site_of}
use Rattle.lattice.specs.Across.{across_of}

-- the entry s of the list, missing past its end
unfoldable pub entry_at : List Float → ℕ → Option Float
entry_at S s = cond (ltb s (length S)) (Some (get_or S s nan)) None

-- by site number
unfoldable pub value_at : Sides → List Float → ℕ → Option Float
value_at n S s = cond (sides_ok n && ltb s (sites n)) (entry_at S s) None

-- by coordinates
unfoldable pub value_uvw : Sides → List Float → ℕ → ℕ → ℕ → Option Float
value_uvw n S u v w = cond (sides_ok n && in_box n u v w) (entry_at S (site_of n u v w)) None

-- across edge e of the site s
unfoldable pub entry_by : List Float → Option ℕ → Option Float
entry_by S None = None
entry_by S (Some t) = entry_at S t

unfoldable pub value_across : Sides → List Float → ℕ → ℕ → Option Float
value_across n S s e = cond (sides_ok n && ltb s (sites n) && ltb e 14) (entry_by S (across_of n s e)) None
