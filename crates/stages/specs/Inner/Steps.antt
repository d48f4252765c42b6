-- The passes in the steps of the code: the edge table written place by place, a rollback vertex by vertex and edge by edge. Assumes nothing.
use Rattle.std.specs.Prelude.{Bool, ◌&&◌, cond, List, [], ◌∷◌, ◌++◌, map, ℕ, suc, eqb, get_or, set}
use Rattle.laws.specs.Ranges.{fold}
use Rattle.march.specs.March.{none}
use Rattle.lattice.specs.declared.Sides.{Sides}
use Rattle.stages.specs.Boxes.{owned}
use Rattle.stages.specs.Vertices.{Vertex, nobody, held, apart}
use Rattle.stages.specs.Rounds.{rolled, retired}

-- the vertex n is written at each of the places
unfoldable pub paint : ℕ → List ℕ → List ℕ → List ℕ
paint n [] t = t
paint n (k ∷ ks) t = paint n ks (set t k n)

-- a vertex pass in a box with sides n: the vertices painted in turn, the first of them numbered i
unfoldable pub paint_from : Sides → ℕ → List Vertex → List ℕ → List ℕ
paint_from n i [] t = t
paint_from n i (x ∷ vs) t = paint_from n (suc i) vs (paint i (map (owned n x.site) (held x)) t)

-- each place gets a vertex of its own, from n on
unfoldable pub number : ℕ → List ℕ → List ℕ → List ℕ
number n [] t = t
number n (k ∷ ks) t = number (suc n) ks (set t k n)

-- one turn of a rollback: where vertex i is rolled back, it is retired and its edges' vertices are appended
unfoldable pub roll_turn : ℕ → List ℕ → ℕ → List Vertex → List Vertex
roll_turn r os i ws =
    cond (rolled os (get_or ws i nobody)) (set ws i (retired (get_or ws i nobody)) ++ apart r (get_or ws i nobody)) ws

-- the first n turns
unfoldable pub roll_to : ℕ → List ℕ → ℕ → List Vertex → List Vertex
roll_to r os n ws = fold (roll_turn r os) n ws

-- within a turn, over a table and the next number: the marked edge e whose entry is i gets the number; own e is the edge's place
unfoldable pub renumber : (ℕ → ℕ) → (ℕ → Bool) → ℕ → ℕ → List ℕ × ℕ → List ℕ × ℕ
renumber own mark i e p = cond (mark e && eqb (get_or p.0 (own e) none) i) (set p.0 (own e) p.1, suc p.1) p

-- the first n edges
unfoldable pub renumber_to : (ℕ → ℕ) → (ℕ → Bool) → ℕ → ℕ → List ℕ × ℕ → List ℕ × ℕ
renumber_to own mark i n p = fold (renumber own mark i) n p
