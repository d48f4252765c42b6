-- Vertices: one for each cluster, in site and cluster order; edges without a point are skipped, and a cluster with none makes none. Assumes nothing.
use Rattle.std.specs.Prelude.{Bool, true, false, cond, List, [], ◌∷◌, map, ℕ, ltb, length}
use Rattle.laws.specs.Ranges.{each}
use Rattle.laws.specs.Lists.{keep}
use Rattle.lattice.specs.Sites.{sites}
use Rattle.stages.specs.Boxes.{Box, owned}

-- A vertex: the site that marked its edges, the edges it was made for, whether it is unretired, and the round that made it.
-- Its position is that of `site` and `edges`, so it stays when the vertex is retired.
pub record Vertex : Type 0 where
  pub site : ℕ
  pub edges : List ℕ
  pub live : Bool
  pub round : ℕ

unfoldable pub fresh : ℕ → ℕ → List ℕ → Vertex
fresh r s es = record { site = s; edges = es; live = true; round = r }

-- past the last vertex
unfoldable pub nobody : Vertex
nobody = record { site = 0; edges = []; live = false; round = 0 }

-- the edges held now, and their places in the edge table
unfoldable pub held : Vertex → List ℕ
held x = cond x.live x.edges []

unfoldable pub keys : Box → Vertex → List ℕ
keys b x = map (owned b.sides x.site) (held x)

-- a live cluster vertex: unretired, holding more than one edge
unfoldable pub several : Vertex → Bool
several x = ltb 1 (length (held x))

-- a vertex for each edge that x holds, made in round r
unfoldable pub apart : ℕ → Vertex → List Vertex
apart r x = map (λ e. fresh r x.site (e ∷ [])) (held x)

-- ---- the candidates

unfoldable pub filled : List ℕ → Bool
filled [] = false
filled (e ∷ es) = true

unfoldable pub site_vertices : Box → ℕ → List Vertex
site_vertices b s = map (fresh 0 s) (keep filled (map (keep (b.point s)) (b.clusters s)))

unfoldable pub candidates : Box → List Vertex
candidates b = each (sites b.sides) (site_vertices b)
