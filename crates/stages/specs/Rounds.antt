-- Rollback: in each round the owners of live cluster vertices in any triangle on a pair with more than two triangles are rolled back, in site order; for each,
-- its live cluster vertices by number are retired and a vertex is appended for each of their edges, ascending. No such owner, no round. Assumes nothing.
use Rattle.std.specs.Prelude.{Bool, false, ◌&&◌, ◌||◌, cond, List, [], ◌∷◌, ◌++◌, map, ℕ, zero, suc, eqb, ltb, get_or}
use Rattle.laws.specs.Lists.{keep, count, joined}
use Rattle.laws.specs.Triangles.{Tri}
use Rattle.lattice.specs.Sites.{sites}
use Rattle.stages.specs.Boxes.{Box}
use Rattle.stages.specs.Vertices.{Vertex, nobody, several, apart}
use Rattle.stages.specs.Meshes.{numbers, mesh_of}
use Rattle.stages.specs.Splits.{is_crowded, some, split}

-- the triangles on a pair with more than two
unfoldable pub on_crowded : List Tri → Tri → Bool
on_crowded ts t = is_crowded ts (t.0, t.1) || is_crowded ts (t.1, t.2) || is_crowded ts (t.2, t.0)

unfoldable pub crowded_tris : List Tri → List Tri
crowded_tris ts = keep (on_crowded ts) ts

-- vertex n is a live cluster vertex of the site s
unfoldable pub cluster_of : List Vertex → ℕ → ℕ → Bool
cluster_of vs s n = several (get_or vs n nobody) && eqb s (get_or vs n nobody).site

-- s owns a live cluster vertex in one of the triangles
unfoldable pub owns : List Vertex → List Tri → ℕ → Bool
owns vs ts s = some (λ t. cluster_of vs s t.0 || cluster_of vs s t.1 || cluster_of vs s t.2) ts

unfoldable pub owners : Box → List Vertex → List ℕ
owners b vs = keep (owns vs (crowded_tris (mesh_of b vs))) (numbers (sites b.sides))

unfoldable pub is_in : List ℕ → ℕ → Bool
is_in l s = ltb 0 (count (eqb s) l)

unfoldable pub rolled : List ℕ → Vertex → Bool
rolled os x = several x && is_in os x.site

unfoldable pub retired : Vertex → Vertex
retired x = record { site = x.site; edges = x.edges; live = false; round = x.round }

unfoldable pub retire : List ℕ → Vertex → Vertex
retire os x = cond (rolled os x) (retired x) x

-- what an owner appends in round r
unfoldable pub live_at : ℕ → Vertex → Bool
live_at s x = several x && eqb x.site s

unfoldable pub regrown : ℕ → List Vertex → ℕ → List Vertex
regrown r vs s = joined (map (apart r) (keep (live_at s) vs))

unfoldable pub rollback : ℕ → List ℕ → List Vertex → List Vertex
rollback r os vs = map (retire os) vs ++ joined (map (regrown r vs) os)

-- no owner, no round
unfoldable pub given : {A : Type 0} → List ℕ → A → (List ℕ → A) → A
given [] a f = a
given (s ∷ os) a f = f (s ∷ os)

-- at most k rounds, the first of them numbered r
unfoldable pub rounds : Box → ℕ → ℕ → List Vertex → List Vertex
rounds b zero r vs = vs
rounds b (suc k) r vs = given (owners b vs) vs (λ os. rounds b k (suc r) (rollback r os vs))

unfoldable pub rounds_done : Box → ℕ → ℕ → List Vertex → ℕ
rounds_done b zero r vs = 0
rounds_done b (suc k) r vs = given (owners b vs) 0 (λ os. suc (rounds_done b k (suc r) (rollback r os vs)))

-- the vertices of a build with at most R rounds
unfoldable pub built : Box → ℕ → List Vertex
built b R = rounds b R 1 (split b)
