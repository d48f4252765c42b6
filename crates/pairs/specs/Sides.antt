-- The sides of a list of triangles, three vertex numbers each, and how often a pair of vertices is a side. Nothing here knows of sorting.
use Rattle.std.specs.Prelude.{Bool, ◌||◌, List, [], ◌∷◌, ◌++◌, ℕ, ◌+◌, ◌*◌, ◌-◌, ◌/◌, ◌%◌, ltb, length, get_or, replicate}
use Rattle.laws.specs.Bools.{bit}
use Rattle.laws.specs.Lists.{count}
use Rattle.laws.specs.Ranges.{each}
use Rattle.laws.specs.Couples.{Pair, from_to}

-- the sides in order, each from its corner to the next one of the triangle
unfoldable pub directed : List ℕ → List Pair
directed [] = []
directed (u ∷ []) = []
directed (u ∷ v ∷ []) = []
directed (u ∷ v ∷ w ∷ s) = (u, v) ∷ (v, w) ∷ (w, u) ∷ directed s

-- how many sides run from x to y
unfoldable pub dir_count : ℕ → ℕ → List ℕ → ℕ
dir_count x y s = count (from_to x y) (directed s)

-- the side has the ends x and y, whichever way it runs
unfoldable pub joins : ℕ → ℕ → Pair → Bool
joins x y p = from_to x y p || from_to y x p

-- how many sides have the ends x and y
unfoldable pub pair_count : ℕ → ℕ → List ℕ → ℕ
pair_count x y s = count (joins x y) (directed s)

-- Side k starts at corner k of the list, in triangle k / 3, and ends at the next corner of that triangle.
unfoldable pub next : ℕ → ℕ
next k = k / 3 * 3 + (k + 1) % 3

-- the pair of side k is a side more than twice
unfoldable pub crowded : List ℕ → ℕ → Bool
crowded s k = ltb 2 (pair_count (get_or s k 0) (get_or s (next k) 0) s)

-- for each side 1 where it is so, 0 where not
unfoldable pub crowded_flags : List ℕ → List ℕ
crowded_flags s = each (length s) (λ k. bit (crowded s k) ∷ [])

-- what `over_sides` leaves of its room: these flags, then zeros
abbrev pub crowded_room : List ℕ → List ℕ → List ℕ
crowded_room s room = crowded_flags s ++ replicate (length room - length s) 0
