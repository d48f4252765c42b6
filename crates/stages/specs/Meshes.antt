-- The edge table, the vertex book and the mesh of a list of vertices. Assumes nothing.
use Rattle.std.specs.Prelude.{Bool, cond, List, [], ◌∷◌, ◌++◌, map, ℕ, suc, ◌+◌, ◌*◌, eqb, ltb, length}
use Rattle.laws.specs.Ranges.{each}
use Rattle.laws.specs.Lists.{count}
use Rattle.laws.specs.Triangles.{Tri}
use Rattle.lattice.specs.Sites.{sites}
use Rattle.march.specs.March.{Field, none, march}
use Rattle.stages.specs.Boxes.{Box}
use Rattle.stages.specs.Vertices.{Vertex, held, keys}

-- the numbers 0, 1, .. n - 1
unfoldable pub numbers : ℕ → List ℕ
numbers n = each n (λ i. i ∷ [])

unfoldable pub holds : Box → ℕ → Vertex → Bool
holds b k x = ltb 0 (count (eqb k) (keys b x))

-- the vertex that holds the owned edge at place k, where the vertices are numbered from n on; 0xFFFFFFFF if there is none
unfoldable pub find : Box → ℕ → List Vertex → ℕ → ℕ
find b n [] k = none
find b n (x ∷ vs) k = cond (holds b k x) n (find b (suc n) vs k)

-- the edge table: at 7 * site + label that owned edge's vertex, or 0xFFFFFFFF
unfoldable pub table_of : Box → List Vertex → List ℕ
table_of b vs = map (find b 0 vs) (numbers (7 * sites b.sides))

-- the vertex book: site, edges held now, edges held when made, round made
unfoldable pub book_of : List Vertex → List ℕ
book_of [] = []
book_of (x ∷ vs) = x.site ∷ length (held x) ∷ length x.edges ∷ x.round ∷ book_of vs

-- the positions, where P gives those of a site and a list of its edges
unfoldable pub positions_of : {A : Type 0} → (ℕ → List ℕ → List A) → List Vertex → List A
positions_of P [] = []
positions_of P (x ∷ vs) = P x.site x.edges ++ positions_of P vs

-- the march over the table
unfoldable pub field_of : Box → List Vertex → Field
field_of b vs = record { box = b.sides; finite = b.finite; side = b.side; vertex = λ s l. find b 0 vs (7 * s + l) }

unfoldable pub mesh_of : Box → List Vertex → List Tri
mesh_of b vs = march (field_of b vs)
