-- The site across an edge: labels 0 to 6 lead up to a corner of the site's cell, labels 7 to 13 lead back the same way, and no other label leads anywhere. Assumes nothing.
use Rattle.std.specs.Prelude.{◌&&◌, cond, ℕ, ◌-◌, ltb, leb, Option, None, Some}
use Rattle.tables.specs.Edges.{corner_of, du, dv, dw}
use Rattle.lattice.specs.declared.Sides.{Sides}
use Rattle.lattice.specs.Sites.{site_of, uvw_of, in_box, step}

-- the corner c above (u, v, w), missing where it is past the box
unfoldable pub upward : Sides → ℕ → ℕ → ℕ → ℕ → Option ℕ
upward n u v w c =
    cond (in_box n (step (du c) u) (step (dv c) v) (step (dw c) w)) (Some (site_of n (step (du c) u) (step (dv c) v) (step (dw c) w))) None

-- the site below (u, v, w) whose corner c it is, missing where a coordinate would fall below 0
unfoldable pub downward : Sides → ℕ → ℕ → ℕ → ℕ → Option ℕ
downward n u v w c =
    cond (leb (du c) u && leb (dv c) v && leb (dw c) w) (Some (site_of n (u - du c) (v - dv c) (w - dw c))) None

unfoldable pub across_at : Sides → ℕ → ℕ → ℕ → ℕ → Option ℕ
across_at n u v w e = cond (ltb e 7) (upward n u v w (corner_of e)) (cond (ltb e 14) (downward n u v w (corner_of (e - 7))) None)

-- by the site's number
unfoldable pub across_of : Sides → ℕ → ℕ → Option ℕ
across_of n s e = across_at n (uvw_of n s).u (uvw_of n s).v (uvw_of n s).w e
