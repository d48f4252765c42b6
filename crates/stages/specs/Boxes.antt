-- What a build is over: the box, what is known of each site's sample, the clusters of the edges that each site has marked, and which of them have a point. Assumes nothing.
use Rattle.std.specs.Prelude.{Bool, cond, List, ℕ, ◌+◌, ◌*◌, ◌-◌, ltb}
use Rattle.tables.specs.Edges.{corner_of, du, dv, dw}
use Rattle.lattice.specs.declared.Sides.{Sides}

pub record Box : Type 0 where
  pub sides : Sides
  -- of each site: is its sample finite, is it inside
  pub finite : ℕ → Bool
  pub side : ℕ → Bool
  -- the clusters of a site's marked edges, in order, each with its edges (0 to 13) ascending
  pub clusters : ℕ → List (List ℕ)
  -- the edge marked at the site has a point
  pub point : ℕ → ℕ → Bool

-- how far the site across the owned edge l lies, by number
unfoldable pub reach : Sides → ℕ → ℕ
reach n l = du (corner_of l) + n.nu * dv (corner_of l) + n.nu * n.nv * dw (corner_of l)

-- The edge e of a site as an owned edge, by its place 7 * owner + label in the edge table: 0 to 6 are the site's own, 7 to 13 the other end's.
unfoldable pub owned : Sides → ℕ → ℕ → ℕ
owned n s e = cond (ltb e 7) (7 * s + e) (7 * (s - reach n (e - 7)) + (e - 7))
