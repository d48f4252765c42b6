-- The case of four optional samples, and the six cases of a site from the samples of its cell's corners. Assumes nothing.
use Rattle.std.specs.Prelude.{Bool, false, ◌&&◌, cond, List, [], ◌∷◌, ℕ, ◌+◌, ◌*◌, Float, Option, None, Some}
use Rattle.laws.specs.Bools.{bit}
use Rattle.laws.specs.Ranges.{each}
use Rattle.tables.specs.Edges.{du, dv, dw}
use Rattle.tables.specs.Tets.{tet_corner}
use Rattle.samples.specs.Sides.{inside, finite}
use Rattle.lattice.specs.declared.Sides.{Sides}
use Rattle.lattice.specs.Sites.{step}
use Rattle.sample_view.specs.View.{value_uvw}

-- the sample is there and finite
abbrev pub is_there : Option Float → Bool
is_there None = false
is_there (Some v) = finite v

abbrev pub is_below : Option Float → Float → Bool
is_below None h = false
is_below (Some v) h = inside v h

-- bit i is set where sample i is inside; 0 where one is missing or not finite
unfoldable pub case_from : Option Float → Option Float → Option Float → Option Float → Float → ℕ
case_from a b c d h =
    cond (is_there a && is_there b && is_there c && is_there d)
    (bit (is_below a h) + 2 * bit (is_below b h) + 4 * bit (is_below c h) + 8 * bit (is_below d h)) 0

-- the sample of corner c of the cell at (u, v, w): missing outside the box
unfoldable pub corner_value : Sides → List Float → ℕ → ℕ → ℕ → ℕ → Option Float
corner_value n s u v w c = value_uvw n s (step (du c) u) (step (dv c) v) (step (dw c) w)

-- the case of tetrahedron t of the site (u, v, w), and its six cases
unfoldable pub tetrahedron_case : Sides → List Float → Float → ℕ → ℕ → ℕ → ℕ → ℕ
tetrahedron_case n s h u v w t =
    case_from (corner_value n s u v w (tet_corner t 0)) (corner_value n s u v w (tet_corner t 1)) (corner_value n s u v w (tet_corner t 2))
    (corner_value n s u v w (tet_corner t 3)) h

unfoldable pub cases_at : Sides → List Float → Float → ℕ → ℕ → ℕ → List ℕ
cases_at n s h u v w = each 6 (λ t. tetrahedron_case n s h u v w t ∷ [])
