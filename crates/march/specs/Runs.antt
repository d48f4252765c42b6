-- What is said of triangles: which way one runs a pair of vertices, and which edges of the box are crossed. Assumes nothing.
use Rattle.std.specs.Prelude.{Bool, not, ◌&&◌, ◌||◌, ℕ, eqb, ltb}
use Rattle.std.specs.Bool.{beq}
use Rattle.laws.specs.Triangles.{Tri}
use Rattle.tables.specs.Edges.{corner_of, du, dv, dw}
use Rattle.lattice.specs.Sites.{in_box, step}
use Rattle.march.specs.March.{Field, side_at}

-- the triangle runs from p to q
unfoldable pub runs : ℕ → ℕ → Tri → Bool
runs p q t = (eqb t.0 p && eqb t.1 q) || (eqb t.1 p && eqb t.2 q) || (eqb t.2 p && eqb t.0 q)

-- the triangle is on the undirected pair p, q
unfoldable pub touches : ℕ → ℕ → Tri → Bool
touches p q t = runs p q t || runs q p t

-- the owned edge l of the site (u, v, w) has both ends in the box, on different sides
unfoldable pub crossed : Field → ℕ → ℕ → ℕ → ℕ → Bool
crossed F u v w l =
    let u' = step (du (corner_of l)) u in
    let v' = step (dv (corner_of l)) v in
    let w' = step (dw (corner_of l)) w in
    ltb l 7 && in_box F.box u v w && in_box F.box u' v' w' && not (beq (side_at F u v w) (side_at F u' v' w'))
