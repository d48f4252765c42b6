-- The march in the shape of its loops: vertex numbers one after the other, read from the edge table. Assumes nothing.
use Rattle.std.specs.Prelude.{Bool, ◌||◌, cond, List, [], ◌∷◌, ℕ, ◌+◌, ◌*◌, ◌-◌, ◌/◌, ◌%◌, ◌≤◌, ◌<◌, eqb, length, get_or, Float}
use Rattle.laws.specs.Ranges.{each}
use Rattle.laws.specs.Triangles.{Tri, flat}
use Rattle.tables.specs.Edges.{du, dv, dw}
use Rattle.tables.specs.Tets.{edge_in}
use Rattle.tables.specs.Cases.{mt_row}
use Rattle.lattice.specs.declared.Sides.{Sides}
use Rattle.lattice.specs.Sites.{SidesFit, sites, cells}
use Rattle.cases.specs.Inner.Codes.{case_on}
use Rattle.march.specs.March.{Field, none, emitted, site_tris}

-- the three vertices of a triangle, nothing where it is dropped
unfoldable pub shown : Tri → List ℕ
shown t = cond (emitted t) (t.0 ∷ t.1 ∷ t.2 ∷ []) []

-- a vertex stands twice
abbrev pub twice : ℕ → ℕ → ℕ → Bool
twice a b c = eqb a b || eqb b c || eqb a c

-- three vertices, nothing where one stands twice
unfoldable pub unless_twice : List ℕ → List ℕ
unless_twice v = cond (twice (get_or v 0 0) (get_or v 1 0) (get_or v 2 0)) [] (get_or v 0 0 ∷ get_or v 1 0 ∷ get_or v 2 0 ∷ [])

-- the vertex of edge x of the cell at site i, where rows are nu sites long and layers nn
unfoldable pub look_up : List ℕ → ℕ → ℕ → ℕ → ℕ → ℕ
look_up edges i nu nn x = get_or edges (7 * (i + du (x / 7) + nu * dv (x / 7) + nn * dw (x / 7)) + x % 7) none

-- the vertex of corner c of triangle k of a case
unfoldable pub corner_at : (ℕ → ℕ) → ℕ → ℕ → ℕ → ℕ → ℕ
corner_at look t case k c = look (edge_in t (get_or (flat (mt_row case)) (3 * k + c) 0))

unfoldable pub tri_at : (ℕ → ℕ) → ℕ → ℕ → ℕ → Tri
tri_at look t case k = (corner_at look t case k 0, corner_at look t case k 1, corner_at look t case k 2)

-- what triangle k gives, and the triangles of a case
unfoldable pub tri_flat : (ℕ → ℕ) → ℕ → ℕ → ℕ → List ℕ
tri_flat look t case k = shown (tri_at look t case k)

unfoldable pub tet_flat : (ℕ → ℕ) → ℕ → ℕ → List ℕ
tet_flat look t case = each (length (mt_row case)) (tri_flat look t case)

-- the six tetrahedra of the cell whose corners are given by their numbers
unfoldable pub cell_flat : (ℕ → ℕ) → List ℕ → List ℕ
cell_flat look l = each 6 (λ t. tet_flat look t (case_on l t))

-- a row of cells, the last site left out
unfoldable pub row_flat : Field → ℕ → List ℕ
row_flat F v = each (F.box.nu - 1) (λ u. flat (site_tris F u v 0))

-- ---- what the parts of the march ask for

-- the cell at site i is in the edge table
pub record InTable (edges : List ℕ) (i nu nn : ℕ) : Type 0 where
  pub site : i ≤ 32768
  pub row : nu ≤ 32
  pub layer : nn ≤ 1024
  pub room : 7 * (i + 1 + nu + nn) + 7 ≤ length edges

-- samples and edge table reach over the sites of a box of at least two layers
pub record Lent (n : Sides) (s : List Float) (edges : List ℕ) : Type 0 where
  pub fit : SidesFit n
  pub two : 1 < n.nw
  pub samples : sites n ≤ length s
  pub table : 7 * sites n ≤ length edges

-- those of any box, and a list with room for twelve triangles a cell
pub record Lends (n : Sides) (s : List Float) (edges tris : List ℕ) : Type 0 where
  pub fit : SidesFit n
  pub samples : sites n ≤ length s
  pub table : 7 * sites n ≤ length edges
  pub room : 36 * cells n ≤ length tris
