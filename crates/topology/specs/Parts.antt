-- The components of a mask of edges: the parts of the graph in which edges of the mask that are neighbours are joined. Nothing here says how they are found. Assumes nothing.
use Rattle.std.specs.Prelude.{◌≡◌, ℕ, ◌<◌, T, List, [], ◌∷◌}
use Rattle.std.specs.Int.Count.{count_trailing_zeros}
use Rattle.laws.specs.Lists.{All, total}
use Rattle.laws.specs.Digits.{digit}
use Rattle.tables.specs.Edges.{are_neighbours}

-- the lowest edge of a mask that is not 0
abbrev pub low : ℕ → ℕ
low m = count_trailing_zeros 16 m

-- a way from e to an edge, each step to a neighbour in the mask m
pub data Path (m e : ℕ) : ℕ → Type 0 where
  here : Path m e e
  next : {f g : ℕ} → Path m e f → T (are_neighbours f g) → digit m g ≡ 1 → Path m e g

-- c is a component of m: it is not empty, it is joined within itself, and a neighbour in m of one of its edges is one of them
pub record Component (m c : ℕ) : Type 0 where
  pub some : 0 < c
  pub joined : (f : ℕ) → digit c f ≡ 1 → Path c (low c) f
  pub closed : (e f : ℕ) → digit c e ≡ 1 → T (are_neighbours e f) → digit m f ≡ 1 → digit c f ≡ 1

-- the lowest edges ascend
unfoldable pub Ascending : List ℕ → Type 0
Ascending [] = Unit {0}
Ascending (c ∷ cs) = All (λ d. low c < low d) cs × Ascending cs

-- cs are the components of m, in order: an edge of m is in just one of them, and they have no other edges. There is just one such
-- list (`parts_unique` of proofs/Parts).
pub record Parts (m : ℕ) (cs : List ℕ) : Type 0 where
  pub cover : (e : ℕ) → total (λ c. digit c e) cs ≡ digit m e
  pub each : All (Component m) cs
  pub order : Ascending cs

-- cs are parts of m, in order: an edge of m is in just one of them, they have no other edges, and none is empty
pub record Partition (m : ℕ) (cs : List ℕ) : Type 0 where
  pub cover : (e : ℕ) → total (λ c. digit c e) cs ≡ digit m e
  pub some : All (λ c. 0 < c) cs
  pub order : Ascending cs
