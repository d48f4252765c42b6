-- Vertices drawn: each edge that has a point adds it to the vertex's sum, and its place in the edge table takes the vertex's number. Assumes nothing.
use Rattle.std.specs.Prelude.{◌≡◌, List, [], ◌∷◌, map, ℕ, ◌*◌, ◌<◌, ◌≤◌, length, Float}
use Rattle.std.proofs.lemmas.List.Edits.{sets}
use Rattle.lattice.specs.declared.Sides.{Sides}
use Rattle.lattice.specs.Sites.{sites}
use Rattle.points.specs.declared.Frame.{Frame}
use Rattle.points.specs.declared.Point.{Point}
use Rattle.points.specs.declared.Sum.{Sum}
use Rattle.points.specs.Means.{gather, sum_of}
use Rattle.stages.specs.Boxes.{owned}
use Rattle.stages.specs.Samples.{edges_of, points_of}
use Rattle.stages.specs.Inner.Steps.{paint}
use Rattle.site_vertices.specs.Inner.Appending.{pointed_of}

-- the site is in the box, and the edge table has seven places a site
pub record Tabled (n : Sides) (t : List ℕ) (s : ℕ) : Type 0 where
  pub low : s < sites n
  pub table : 7 * sites n ≤ length t

-- ---- the promises

-- the points of the edges es have joined the sum, from q to r, and their places in the table have the number id
pub record EdgesDrawn (f : Frame) (n : Sides) (S : List Float) (s : ℕ) (es : List ℕ) (id : ℕ) (t t' : List ℕ) (q r : Sum) : Type 0 where
  pub sum : r ≡ gather q (points_of f n S s es)
  pub table : t' ≡ paint id (map (owned n s) (pointed_of n S s es)) t

-- the sum of the points of the cluster with the mask m, and the table in which the places of its edges have its number
pub record ClusterDrawn (f : Frame) (n : Sides) (S : List Float) (s m id : ℕ) (t t' : List ℕ) (r : Sum) : Type 0 where
  pub sum : r ≡ sum_of (points_of f n S s (edges_of m))
  pub table : t' ≡ paint id (map (owned n s) (pointed_of n S s (edges_of m))) t

-- vertex i: its position, and its row of the book
pub record VertexPut (i : ℕ) (x : Point) (s held round : ℕ) (p p' : List Float) (k k' : List ℕ) : Type 0 where
  pub positions : p' ≡ sets p (3 * i) (x.x ∷ x.y ∷ x.z ∷ [])
  pub book : k' ≡ sets k (4 * i) (s ∷ held ∷ held ∷ round ∷ [])
