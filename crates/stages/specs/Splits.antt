-- The split: an undirected pair counted more than twice in the march over the candidates splits both its ends where they hold more than one edge;
-- their edges take vertices of their own at that place in the order. Assumes nothing.
use Rattle.std.specs.Prelude.{Bool, ◌&&◌, ◌||◌, cond, List, [], ◌∷◌, ◌++◌, ℕ, suc, ◌+◌, eqb, ltb}
use Rattle.laws.specs.Lists.{keep, count}
use Rattle.laws.specs.Couples.{Pair}
use Rattle.laws.specs.Triangles.{Tri, sides_of}
use Rattle.march.specs.Runs.{touches}
use Rattle.stages.specs.Boxes.{Box}
use Rattle.stages.specs.Vertices.{Vertex, several, apart, candidates}
use Rattle.stages.specs.Meshes.{mesh_of}

-- more than two triangles are on the pair
unfoldable pub is_crowded : List Tri → Pair → Bool
is_crowded ts p = ltb 2 (count (touches p.0 p.1) ts)

-- the sides that are counted more than twice
unfoldable pub crowded_sides : List Tri → List Pair
crowded_sides ts = keep (is_crowded ts) (sides_of ts)

-- one of the members passes the test
unfoldable pub some : {A : Type 0} → (A → Bool) → List A → Bool
some p xs = ltb 0 (count p xs)

unfoldable pub end_of : List Pair → ℕ → Bool
end_of ps n = some (λ p. eqb n p.0 || eqb n p.1) ps

-- the vertices from number n on, where q says which have a flag: one that has a flag and holds more than one edge has its edges apart
unfoldable pub place_by : (ℕ → Bool) → ℕ → List Vertex → List Vertex
place_by q n [] = []
place_by q n (x ∷ xs) = cond (several x && q n) (apart 0 x) (x ∷ []) ++ place_by q (suc n) xs

-- how many of them are split
unfoldable pub split_by : (ℕ → Bool) → ℕ → List Vertex → ℕ
split_by q n [] = 0
split_by q n (x ∷ xs) = cond (several x && q n) 1 0 + split_by q (suc n) xs

-- the same where the ends of the pairs have the flags
abbrev pub place : List Pair → ℕ → List Vertex → List Vertex
place ps = place_by (end_of ps)

abbrev pub split_count : List Pair → ℕ → List Vertex → ℕ
split_count ps = split_by (end_of ps)

unfoldable pub crowded_pairs : Box → List Pair
crowded_pairs b = crowded_sides (mesh_of b (candidates b))

unfoldable pub split : Box → List Vertex
split b = place (crowded_pairs b) 0 (candidates b)
