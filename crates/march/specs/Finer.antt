-- Edges by one number, 7 * owner + label: the march's triangles as triangles of edges, and when one lookup of vertices is finer than another. Assumes nothing.
use Rattle.std.specs.Prelude.{◌≡◌, Bool, true, List, map, ℕ, ◌+◌, ◌*◌, ◌/◌, ◌%◌, ◌<◌}
use Rattle.laws.specs.Ranges.{each}
use Rattle.laws.specs.Lists.{keep}
use Rattle.laws.specs.Triangles.{Tri}
use Rattle.lattice.specs.declared.Sides.{Sides}
use Rattle.lattice.specs.Sites.{site_of}
use Rattle.march.specs.Cells.{on_each, cell_tris}
use Rattle.march.specs.March.{Field, none, ok_at, side_at, vertex_at, corners_of, vertex_in, emitted}
use Rattle.march.specs.Runs.{crossed}

-- the number of the edge l of the site (u, v, w)
unfoldable pub edge_no : Sides → ℕ → ℕ → ℕ → ℕ → ℕ
edge_no n u v w l = 7 * site_of n u v w + l

-- its vertex
unfoldable pub by_edge : (ℕ → ℕ → ℕ) → ℕ → ℕ
by_edge look e = look (e / 7) (e % 7)

-- the triangles of edges, none dropped: they depend on the samples alone
unfoldable pub site_edges : Field → ℕ → ℕ → ℕ → List Tri
site_edges F u v w = map (on_each (vertex_in (edge_no F.box) u v w)) (cell_tris (corners_of (ok_at F) u v w) (corners_of (side_at F) u v w))

unfoldable pub edge_tris : Field → List Tri
edge_tris F = each F.box.nw (λ w. each F.box.nv (λ v. each F.box.nu (λ u. site_edges F u v w)))

-- a triangle of edges whose vertices make a triangle
unfoldable pub passes : (ℕ → ℕ → ℕ) → Tri → Bool
passes look t = emitted (on_each (by_edge look) t)

-- those that the march keeps
unfoldable pub kept_edges : Field → List Tri
kept_edges F = keep (passes F.vertex) (edge_tris F)

-- the same box and samples with another lookup
unfoldable pub renamed : Field → (ℕ → ℕ → ℕ) → Field
renamed F look = record { box = F.box; finite = F.finite; side = F.side; vertex = look }

-- Of the edges below m: two with the same vertex in the finer lookup g have the same in the coarser f, and one without a vertex in g has none in f.
pub record Finer (m : ℕ) (g f : ℕ → ℕ) : Type 0 where
  pub same : (d e : ℕ) → d < m → e < m → g d ≡ g e → f d ≡ f e
  pub gone : (e : ℕ) → e < m → g e ≡ none → f e ≡ none

-- e is the number of a crossed edge of the box
pub record Crossed (F : Field) (e : ℕ) : Type 0 where
  pub u : ℕ
  pub v : ℕ
  pub w : ℕ
  pub l : ℕ
  pub crosses : crossed F u v w l ≡ true
  pub is : e ≡ edge_no F.box u v w l

-- x is the vertex of a crossed edge of the box
pub record Named (F : Field) (x : ℕ) : Type 0 where
  pub u : ℕ
  pub v : ℕ
  pub w : ℕ
  pub l : ℕ
  pub crosses : crossed F u v w l ≡ true
  pub is : x ≡ vertex_at F u v w l
