-- The stages of a build, and how often an owned edge is held. Assumes nothing.
use Rattle.std.specs.Prelude.{◌≡◌, true, List, map, ℕ, ◌*◌, ◌<◌, ◌≤◌, eqb, length, get_or}
use Rattle.laws.specs.Lists.{count, joined}
use Rattle.laws.specs.Couples.{Pair}
use Rattle.march.specs.March.{none}
use Rattle.stages.specs.Boxes.{Box}
use Rattle.stages.specs.Vertices.{Vertex, nobody, keys, candidates}
use Rattle.stages.specs.Meshes.{holds, find}
use Rattle.stages.specs.Splits.{place}
use Rattle.stages.specs.Rounds.{owners, rollback}

-- the vertices after the vertex pass, after the split (any pairs may have been the reason), and after each round
pub data Stage (b : Box) : List Vertex → Type 0 where
  first : Stage b (candidates b)
  parted : (ps : List Pair) → Stage b (place ps 0 (candidates b))
  again : {vs : List Vertex} → (r : ℕ) → Stage b vs → Stage b (rollback r (owners b vs) vs)

-- the places of all owned edges that unretired vertices hold
unfoldable pub held_keys : Box → List Vertex → List ℕ
held_keys b vs = joined (map (keys b) vs)

-- how many of the places are k
unfoldable pub holders : Box → List Vertex → ℕ → ℕ
holders b vs k = count (eqb k) (held_keys b vs)

-- how many edges the candidates hold
unfoldable pub edge_count : Box → ℕ
edge_count b = length (held_keys b (candidates b))

-- The owned edge at place k is held by exactly one unretired vertex, and the table names it.
pub record Held (b : Box) (vs : List Vertex) (k : ℕ) : Type 0 where
  pub vertex : ℕ
  pub low : vertex < length vs
  pub names : find b 0 vs k ≡ vertex
  pub has : holds b k (get_or vs vertex nobody) ≡ true
  pub live : (get_or vs vertex nobody).live ≡ true
  pub only : (i : ℕ) → i < length vs → holds b k (get_or vs i nobody) ≡ true → i ≡ vertex

-- A table entry that is not 0xFFFFFFFF names an unretired vertex below the count, which holds the edge.
pub record Named (b : Box) (vs : List Vertex) (k : ℕ) : Type 0 where
  pub low : find b 0 vs k < length vs
  pub has : holds b k (get_or vs (find b 0 vs k) nobody) ≡ true
  pub live : (get_or vs (find b 0 vs k) nobody).live ≡ true

-- What the lower crates give a build: no owned edge is in two clusters, and the vertices' numbers stay below 0xFFFFFFFF.
pub record Sound (b : Box) : Type 0 where
  pub once : (k : ℕ) → holders b (candidates b) k ≤ 1
  pub few : 3 * edge_count b ≤ 2 * none
