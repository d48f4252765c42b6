-- The six cases of the paper, and which of a site's near intersections share a vertex. Assumes nothing.
use Rattle.std.specs.Prelude.{ℕ, ◌-◌, ◌^◌, Bool, true, false, cond, ◌&&◌, List, [], ◌∷◌, length, ◌==◌, bit_and, nat_lt, Float, Option}
use Rattle.laws.specs.Lists.{total}
use Rattle.laws.specs.Ranges.{each}
use Rattle.laws.specs.Filling.{padded}
use Rattle.laws.specs.Digits.{is_set}
use Rattle.topology.specs.declared.Clusters.{Clusters}
use Rattle.topology.specs.declared.TopologyCase.{TopologyCase}
use Rattle.topology.specs.declared.TopologyCase.TheVariants.{ClosedSurface, MultiHole, FlatHole, MultiSurface, SimpleSurface, DoNotCluster}
use Rattle.topology.specs.declared.TopologyResult.{TopologyResult}
use Rattle.topology.specs.Walk.{fourteen, components, visits}
use Rattle.topology.specs.Flat.{is_flat}

-- the edges without a near intersection: the others of the fourteen (`others-digit` of proofs/Others)
abbrev pub others : ℕ → ℕ
others m = bit_and 0x3FFF (0xFFFF - m)

-- What the mask of near intersections says by itself: there are none; all fourteen edges have one; they form more than one
-- surface; the other edges do not form one hole; or there is one surface with one hole, which may be flat.
pub data Kind : Type 0 where
  empty : Kind
  closed : Kind
  surfaces : Kind
  holes : Kind
  single : Kind

unfoldable pub kind_of : ℕ → Kind
kind_of m =
    cond (m == 0) empty
    (cond (m == 0x3FFF) closed
    (cond (nat_lt 1 (length (components m))) surfaces
    (cond (length (components (others m)) == 1) single holes)))

-- The masks that are walked to tell the kind: none, where there are no edges or all fourteen; the mask; and, where it is one surface,
-- the other edges too.
abbrev pub walks_of : Kind → ℕ → List ℕ
walks_of empty m = []
walks_of closed m = []
walks_of surfaces m = m ∷ []
walks_of holes m = m ∷ others m ∷ []
walks_of single m = m ∷ others m ∷ []

-- the case: by the kind, whether to cluster, and whether the hole is flat
abbrev pub case_by : Kind → Bool → Bool → TopologyCase
case_by empty cluster flat = SimpleSurface
case_by closed true flat = ClosedSurface
case_by closed false flat = DoNotCluster
case_by surfaces true flat = MultiSurface
case_by surfaces false flat = DoNotCluster
case_by holes true flat = MultiHole
case_by holes false flat = DoNotCluster
case_by single true true = FlatHole
case_by single true false = SimpleSurface
case_by single false flat = DoNotCluster

-- each intersection by itself, in order of their edges
unfoldable pub singles : ℕ → List ℕ
singles m = each 14 (λ e. cond (is_set m e) (2 ^ e ∷ []) [])

-- One vertex for each surface where there are several or there is a simple one; else the intersections stay as they are.
abbrev pub clusters_in : TopologyCase → ℕ → List ℕ
clusters_in ClosedSurface m = singles m
clusters_in MultiHole m = singles m
clusters_in FlatHole m = singles m
clusters_in MultiSurface m = components m
clusters_in SimpleSurface m = components m
clusters_in DoNotCluster m = singles m

-- as the test answers: how many, and fourteen places
abbrev pub clusters_of : List ℕ → Clusters
clusters_of cs = record { count = length cs; masks = padded 14 0 cs }

abbrev pub result : TopologyCase → List ℕ → ℕ → TopologyResult
result c cs v = record { case = c; clusters = clusters_of cs; visits = v }

-- The answer, of a mask of near intersections, whether to cluster, the samples at the fourteen ends and the threshold.
-- Its clusters are a partition of the mask (`clusters_partition` of proofs/Answers).
unfoldable pub case_of : ℕ → Bool → List (Option Float) → Float → TopologyCase
case_of near cluster ends h = case_by (kind_of (fourteen near)) cluster (is_flat (fourteen near) ends h)

-- the edges that the walks of the test visit, together; where it is not to cluster, none is made
unfoldable pub visits_of : ℕ → Bool → ℕ
visits_of near cluster = cond cluster (total visits (walks_of (kind_of (fourteen near)) (fourteen near))) 0

unfoldable pub topology_of : ℕ → Bool → List (Option Float) → Float → TopologyResult
topology_of near cluster ends h = result (case_of near cluster ends h) (clusters_in (case_of near cluster ends h) (fourteen near)) (visits_of near cluster)

-- whether the samples at the ends are asked for: only where one surface with one hole is to be clustered
abbrev pub is_single : Kind → Bool
is_single empty = false
is_single closed = false
is_single surfaces = false
is_single holes = false
is_single single = true

unfoldable pub asks_ends : ℕ → Bool → Bool
asks_ends near cluster = cluster && is_single (kind_of (fourteen near))

-- the number of a case (docs/SCOPE.md, S4.3); a site that is not clustered has the next
unfoldable pub case_number : TopologyCase → ℕ
case_number ClosedSurface = 0
case_number MultiHole = 1
case_number FlatHole = 2
case_number MultiSurface = 3
case_number SimpleSurface = 4
case_number DoNotCluster = 5
