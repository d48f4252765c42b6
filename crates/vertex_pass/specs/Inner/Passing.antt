-- The vertex pass over candidates, each of which has a flag by its number: a flagged one that holds more than one edge has its edges apart. Assumes nothing.
use Rattle.std.specs.Prelude.{◌≡◌, Bool, List, [], ◌∷◌, map, ℕ, ◌+◌, ◌*◌, ◌<◌, ◌≤◌, eqb, length, get_or, replicate, Float}
use Rattle.laws.specs.Ranges.{each}
use Rattle.laws.specs.Lists.{keep}
use Rattle.lattice.specs.declared.Sides.{Sides}
use Rattle.lattice.specs.Sites.{sites}
use Rattle.marks.specs.Marks.{mask_at}
use Rattle.marks.specs.Inner.Loops.{Sampled}
use Rattle.points.specs.declared.Frame.{Frame}
use Rattle.march.specs.March.{none}
use Rattle.stages.specs.Vertices.{Vertex, fresh, filled, candidates}
use Rattle.stages.specs.Splits.{place_by, split_by}
use Rattle.stages.specs.Samples.{box_of, edges_of, case_count}
use Rattle.site_vertices.specs.Inner.Appending.{Appended, Space, pointed_of}
use Rattle.vertex_pass.specs.declared.Pass.{Pass}
use Rattle.vertex_pass.specs.declared.Walk.{Walk}

-- flags as a list of words; past its end there are none
unfoldable pub flag_of : List ℕ → ℕ → Bool
flag_of l i = eqb (get_or l i 0) 1

-- the candidate of a cluster, none where none of its edges has a point
unfoldable pub candidate_of : Sides → List Float → ℕ → ℕ → List Vertex
candidate_of n S s m = map (fresh 0 s) (keep filled (pointed_of n S s (edges_of m) ∷ []))

-- The candidates cs are met: the next vertex, the next candidate and the number of splits are those of a before and those of c afterwards.
pub record Passed (f : Frame) (n : Sides) (S : List Float) (q : ℕ → Bool) (cs : List Vertex) (a : Pass) (t : List ℕ) (p : List Float) (k : List ℕ) (c : Pass)
    (t' : List ℕ) (p' : List Float) (k' : List ℕ) : Type 0 where
  pub vertices : Appended f n S (place_by q a.tried cs) a.next t p k c.next t' p' k'
  pub tried : c.tried ≡ a.tried + length cs
  pub split : c.split ≡ a.split + split_by q a.tried cs

-- there is room for what they make, and the numbers are small
pub record Ahead (q : ℕ → Bool) (cs : List Vertex) (a : Pass) (p : List Float) (k : List ℕ) : Type 0 where
  pub space : Space p k (a.next + length (place_by q a.tried cs))
  pub tried : a.tried + length cs ≤ 1048576
  pub split : a.split ≤ a.tried

unfoldable pub start : Pass
start = record { next = 0; tried = 0; split = 0 }

-- ---- the cases of the sites

-- the six numbers of the first k sites
unfoldable pub cases_to : Sides → List Float → Float → Bool → ℕ → List ℕ
cases_to n S h cluster k = each 6 (λ j. case_count n S h cluster k j ∷ [])

-- ---- the whole pass

-- the masks are lent as they were found
pub record Masked (n : Sides) (S : List Float) (h : Float) (m : List ℕ) : Type 0 where
  pub sampled : Sampled n S
  pub long : sites n ≤ length m
  pub are : (s : ℕ) → s < sites n → get_or m s 0 ≡ mask_at n S h s

-- the pass over all candidates of the box, the table emptied before
pub record Drawn (f : Frame) (n : Sides) (S : List Float) (h : Float) (cluster : Bool) (q : ℕ → Bool) (p : List Float) (k : List ℕ) (c : Walk) (t' : List ℕ)
    (p' : List Float) (k' : List ℕ) : Type 0 where
  pub passed : Passed f n S q (candidates (box_of n S h cluster)) start (replicate (7 * sites n) none) p k c.pass t' p' k'
  pub cases : c.cases ≡ cases_to n S h cluster (sites n)
