-- One cell: the cases of its six tetrahedra and their triangles, over its own corners 0 to 7 and its own edges 7 * corner + label. Assumes nothing.
-- A cell knows of each corner only whether it is there and whether it is inside; vertices are put in afterwards.
use Rattle.std.specs.Prelude.{Bool, false, ◌&&◌, cond, List, map, ℕ, ◌+◌, ◌*◌, get_or}
use Rattle.laws.specs.Bools.{bit}
use Rattle.laws.specs.Ranges.{each}
use Rattle.laws.specs.Triangles.{Tri}
use Rattle.tables.specs.Tets.{tet_corner, edge_in}
use Rattle.tables.specs.Cases.{mt_row}

-- what is known of the eight corners, in the order of their numbers
abbrev pub Corners : Type 0
Corners = List Bool

unfoldable pub at : Corners → ℕ → Bool
at l c = get_or l c false

-- bit i is set where corner i of the tetrahedron is inside
unfoldable pub case_of : Corners → ℕ → ℕ
case_of side t =
    bit (at side (tet_corner t 0)) + 2 * bit (at side (tet_corner t 1)) + 4 * bit (at side (tet_corner t 2)) + 8 * bit (at side (tet_corner t 3))

-- all four corners are there
unfoldable pub tet_ok : Corners → ℕ → Bool
tet_ok ok t = at ok (tet_corner t 0) && at ok (tet_corner t 1) && at ok (tet_corner t 2) && at ok (tet_corner t 3)

-- the case of tetrahedron t: 0 where a corner is not there
unfoldable pub case_no : (ok side : Corners) → ℕ → ℕ
case_no ok side t = cond (tet_ok ok t) (case_of side t) 0

unfoldable pub on_each : (ℕ → ℕ) → Tri → Tri
on_each f t = (f t.0, f t.1, f t.2)

-- the triangles of one tetrahedron, and of the cell: their corners are edges of the cell
unfoldable pub tet_tris : (ok side : Corners) → ℕ → List Tri
tet_tris ok side t = map (on_each (edge_in t)) (mt_row (case_no ok side t))

unfoldable pub cell_tris : (ok side : Corners) → List Tri
cell_tris ok side = each 6 (tet_tris ok side)
