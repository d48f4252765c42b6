-- The box of a build, made of its samples: marks, clusters and points. Assumes nothing.
use Rattle.std.specs.Prelude.{◌≡◌, Bool, true, false, ◌&&◌, not, List, [], ◌∷◌, ◌++◌, map, ℕ, ◌/◌, ◌%◌, ◌<◌, T, eqb, take, Float, Option, None, Some}
use Rattle.std.specs.Float.{binary64}
use Rattle.std.specs.Float.Ieee.{fits}
use Rattle.laws.specs.Bools.{bit}
use Rattle.laws.specs.Ranges.{each, sum}
use Rattle.laws.specs.Lists.{keep}
use Rattle.laws.specs.Digits.{is_set}
use Rattle.samples.specs.Sides.{inside, finite}
use Rattle.lattice.specs.declared.Sides.{Sides}
use Rattle.lattice.specs.Sites.{sites, uvw_of, ijk_of}
use Rattle.lattice.specs.Across.{across_of}
use Rattle.marks.specs.Marks.{sample, mask_at, is_crossed}
use Rattle.topology.specs.Topology.{topology_of, case_number}
use Rattle.points.specs.declared.Frame.{Frame}
use Rattle.points.specs.declared.Point.{Point}
use Rattle.points.specs.EdgePoints.{edge_point}
use Rattle.points.specs.Means.{mean_of}
use Rattle.stages.specs.Boxes.{Box}
use Rattle.stages.specs.Meshes.{numbers}

-- the sample at the other end of an edge, where there is one
unfoldable pub end_by : List Float → Option ℕ → Option Float
end_by S None = None
end_by S (Some t) = Some (sample S t)

unfoldable pub ends_of : Sides → List Float → ℕ → List (Option Float)
ends_of n S s = each 14 (λ e. end_by S (across_of n s e) ∷ [])

-- the edges of a mask, ascending
unfoldable pub edges_of : ℕ → List ℕ
edges_of m = keep (is_set m) (numbers 14)

-- the clusters of a site: the topology test of its mask and its ends
unfoldable pub clusters_at : Sides → List Float → Float → Bool → ℕ → List (List ℕ)
clusters_at n S h cluster s =
    let c = (topology_of (mask_at n S h s) cluster (ends_of n S s) h).clusters in
    map edges_of (take c.count c.masks)

-- ---- the cases of the sites

-- the site has marked edges, and its case has the number j
unfoldable pub is_case : Sides → List Float → Float → Bool → ℕ → ℕ → Bool
is_case n S h cluster j s = not (eqb (mask_at n S h s) 0) && eqb (case_number (topology_of (mask_at n S h s) cluster (ends_of n S s) h).case) j

-- how many of the first k sites
unfoldable pub case_count : Sides → List Float → Float → Bool → ℕ → ℕ → ℕ
case_count n S h cluster k j = sum k (λ s. bit (is_case n S h cluster j s))

-- ---- the box

-- an edge has a point where both its samples are finite
unfoldable pub point_by : List Float → ℕ → Option ℕ → Bool
point_by S s None = false
point_by S s (Some t) = finite (sample S s) && finite (sample S t)

unfoldable pub box_of : Sides → List Float → Float → Bool → Box
box_of n S h cluster = record {
  sides = n;
  finite = λ s. finite (sample S s);
  side = λ s. inside (sample S s) h;
  clusters = clusters_at n S h cluster;
  point = λ s e. point_by S s (across_of n s e);
}

-- the owned edge at place k of the edge table is crossed, and both its ends are finite
unfoldable pub pointed : Sides → List Float → Float → ℕ → Bool
pointed n S h k = is_crossed n S h (k / 7) (k % 7) && point_by S (k / 7) (across_of n (k / 7) (k % 7))

-- every sample of the box is finite
unfoldable pub AllFinite : Sides → List Float → Type 0
AllFinite n S = (s : ℕ) → s < sites n → finite (sample S s) ≡ true

-- every entry of the list is a float of 64 bits, as those of a lent list are
unfoldable pub AllDouble : List Float → Type 0
AllDouble S = (s : ℕ) → T (fits binary64 (sample S s))

-- ---- positions

unfoldable pub place_of : Frame → Sides → List Float → ℕ → Option ℕ → Option Point
place_of f n S s None = None
place_of f n S s (Some t) =
    edge_point f (ijk_of (uvw_of n s).u (uvw_of n s).v (uvw_of n s).w) (ijk_of (uvw_of n t).u (uvw_of n t).v (uvw_of n t).w) (sample S s) (sample S t)

abbrev pub listed : Option Point → List Point
listed None = []
listed (Some p) = p ∷ []

-- the points of a site's edges, in order, and the three coordinates of their mean
unfoldable pub points_of : Frame → Sides → List Float → ℕ → List ℕ → List Point
points_of f n S s [] = []
points_of f n S s (e ∷ es) = listed (place_of f n S s (across_of n s e)) ++ points_of f n S s es

unfoldable pub position_at : Frame → Sides → List Float → ℕ → List ℕ → List Float
position_at f n S s es = let p = mean_of (points_of f n S s es) in p.x ∷ p.y ∷ p.z ∷ []
