-- The faces of a cell, and the directed segments that the surface leaves on them. Axes go by number: u is 0, v is 1, w is 2. Assumes nothing.
use Rattle.std.specs.Prelude.{List, ◌++◌, map, ℕ, ◌+◌, ◌%◌, ◌^◌}
use Rattle.laws.specs.Couples.{Pair, turn}
use Rattle.tables.specs.Tets.{edge_of}
use Rattle.tables.specs.Cases.{segment}
use Rattle.march.specs.Cells.{Corners, at}

-- the corner of a cell that an axis leads to
unfoldable pub unit : ℕ → ℕ
unit x = 2 ^ x

-- the segment on the lattice triangle with corners a, b and c, each of them below the next, between edges that h names
unfoldable pub segment_on : Corners → (ℕ → ℕ) → ℕ → ℕ → ℕ → List Pair
segment_on side h a b c = segment (at side a) (at side b) (at side c) (h (edge_of a b)) (h (edge_of b c)) (h (edge_of a c))

-- The segments on the face across axis x whose lowest corner is a: two lattice triangles, with the diagonal between them.
-- A cell has the face on its low side with a = 0, and that on its high side with a = unit x.
unfoldable pub face : ℕ → Corners → (ℕ → ℕ) → ℕ → List Pair
face x side h a =
    let y = unit ((x + 1) % 3) in
    let z = unit ((x + 2) % 3) in
    segment_on side h a (a + z) (a + z + y) ++ map turn (segment_on side h a (a + y) (a + z + y))
