-- The march over a box of sites: sites in number order, then the tetrahedra, then the table's rows. Assumes nothing.
use Rattle.std.specs.Prelude.{Bool, not, ◌&&◌, List, [], ◌∷◌, map, ℕ, suc, ◌/◌, ◌%◌, eqb}
use Rattle.laws.specs.Ranges.{each}
use Rattle.laws.specs.Lists.{keep}
use Rattle.laws.specs.Triangles.{Tri}
use Rattle.tables.specs.Edges.{du, dv, dw}
use Rattle.lattice.specs.declared.Sides.{Sides}
use Rattle.lattice.specs.Sites.{in_box, site_of, step}
use Rattle.march.specs.Cells.{Corners, on_each, cell_tris}

-- What a march is over: the box, where a sample is finite, which side it is on, and the vertex of each owned edge by site and label.
-- Sites go by number. The march is stated for any such lookup of a vertex.
pub record Field : Type 0 where
  pub box : Sides
  pub finite : ℕ → Bool
  pub side : ℕ → Bool
  pub vertex : ℕ → ℕ → ℕ

-- 0xFFFFFFFF: an edge without a vertex
unfoldable pub none : ℕ
none = 0xFFFFFFFF

-- ---- corners: a site is there if it is in the box and its sample is finite

unfoldable pub ok_at : Field → ℕ → ℕ → ℕ → Bool
ok_at F u v w = in_box F.box u v w && F.finite (site_of F.box u v w)

unfoldable pub side_at : Field → ℕ → ℕ → ℕ → Bool
side_at F u v w = F.side (site_of F.box u v w)

unfoldable pub vertex_at : Field → ℕ → ℕ → ℕ → ℕ → ℕ
vertex_at F u v w l = F.vertex (site_of F.box u v w) l

-- what f says of the eight corners of the cell at (u, v, w), in the order of their numbers
unfoldable pub corners_of : (ℕ → ℕ → ℕ → Bool) → ℕ → ℕ → ℕ → Corners
corners_of f u v w =
    f u v w ∷ f (suc u) v w ∷ f u (suc v) w ∷ f (suc u) (suc v) w
    ∷ f u v (suc w) ∷ f (suc u) v (suc w) ∷ f u (suc v) (suc w) ∷ f (suc u) (suc v) (suc w) ∷ []

-- the vertex of edge e of the cell at (u, v, w), where G u v w l is that of the edge l of the site (u, v, w)
unfoldable pub vertex_in : (ℕ → ℕ → ℕ → ℕ → ℕ) → ℕ → ℕ → ℕ → ℕ → ℕ
vertex_in G u v w e = G (step (du (e / 7)) u) (step (dv (e / 7)) v) (step (dw (e / 7)) w) (e % 7)

-- ---- triangles: dropped where a vertex is not there or stands twice

unfoldable pub resolved : Tri → Bool
resolved t = not (eqb t.0 none) && not (eqb t.1 none) && not (eqb t.2 none)

unfoldable pub proper : Tri → Bool
proper t = not (eqb t.0 t.1) && not (eqb t.1 t.2) && not (eqb t.0 t.2)

unfoldable pub emitted : Tri → Bool
emitted t = resolved t && proper t

-- those of one site
unfoldable pub site_tris : Field → ℕ → ℕ → ℕ → List Tri
site_tris F u v w =
    keep emitted (map (on_each (vertex_in (vertex_at F) u v w)) (cell_tris (corners_of (ok_at F) u v w) (corners_of (side_at F) u v w)))

-- one layer of sites, and the box
unfoldable pub slab : Field → ℕ → List Tri
slab F w = each F.box.nv (λ v. each F.box.nu (λ u. site_tris F u v w))

unfoldable pub march : Field → List Tri
march F = each F.box.nw (slab F)
