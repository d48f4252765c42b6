-- A round of rollback over the lent lists: what they hold before it, and what they hold afterwards. Assumes nothing.
use Rattle.std.specs.Prelude.{◌≡◌, Bool, List, ℕ, ◌<◌, ◌≤◌, eqb, length, get_or, Float}
use Rattle.std.proofs.lemmas.List.Edits.{sets}
use Rattle.lattice.specs.declared.Sides.{Sides}
use Rattle.lattice.specs.Sites.{sites}
use Rattle.marks.specs.Marks.{mask_at}
use Rattle.marks.specs.Inner.Loops.{Sampled}
use Rattle.points.specs.declared.Frame.{Frame}
use Rattle.stages.specs.Boxes.{Box}
use Rattle.stages.specs.Vertices.{Vertex}
use Rattle.stages.specs.Meshes.{book_of, positions_of, table_of}
use Rattle.stages.specs.Rounds.{is_in, owners, rollback}
use Rattle.stages.specs.Samples.{box_of, position_at}
use Rattle.stages.specs.Stages.{Stage}
use Rattle.site_vertices.specs.Inner.Appending.{Space}

-- The lists with a dash hold the vertices ws, j of them: the edge table is theirs, their positions and rows are stored at the front of p and k, and all else
-- there is as it was.
pub record Holding (f : Frame) (n : Sides) (S : List Float) (b : Box) (ws : List Vertex) (p : List Float) (k : List ℕ) (j : ℕ) (t' : List ℕ) (p' : List Float)
    (k' : List ℕ) : Type 0 where
  pub next : j ≡ length ws
  pub table : t' ≡ table_of b ws
  pub positions : p' ≡ sets p 0 (positions_of (position_at f n S) ws)
  pub book : k' ≡ sets k 0 (book_of ws)

-- Before the round: the lists hold a stage of the build, m has its marks, the sites of its owners are flagged, and there is room for the round.
pub record Rolling (f : Frame) (n : Sides) (S : List Float) (h : Float) (cluster : Bool) (vs : List Vertex) (m t : List ℕ) (p : List Float) (k flags : List ℕ)
    (count round : ℕ) : Type 0 where
  pub sampled : Sampled n S
  pub stage : Stage (box_of n S h cluster) vs
  pub lists : Holding f n S (box_of n S h cluster) vs p k count t p k
  pub masks : sites n ≤ length m
  pub marks : (s : ℕ) → s < sites n → get_or m s 0 ≡ mask_at n S h s
  pub flagged : sites n ≤ length flags
  pub owned : (s : ℕ) → s < sites n → eqb (get_or flags s 0) 1 ≡ is_in (owners (box_of n S h cluster) vs) s
  pub space : Space p k (length (rollback round (owners (box_of n S h cluster) vs) vs))

-- there is such a build
pub record Ready (f : Frame) (n : Sides) (S : List Float) (m t : List ℕ) (p : List Float) (k flags : List ℕ) (count round : ℕ) : Type 0 where
  pub h : Float
  pub cluster : Bool
  pub vs : List Vertex
  pub rolling : Rolling f n S h cluster vs m t p k flags count round

-- Afterwards: of each such build, the lists hold the next stage, j vertices, and what lies behind them is as it was.
pub record Rolled (f : Frame) (n : Sides) (S : List Float) (m t : List ℕ) (p : List Float) (k flags : List ℕ) (count round j : ℕ) (t' : List ℕ) (p' : List Float)
    (k' : List ℕ) : Type 0 where
  pub lists : (h : Float) (cluster : Bool) (vs : List Vertex) → Rolling f n S h cluster vs m t p k flags count round
      → Holding f n S (box_of n S h cluster) (rollback round (owners (box_of n S h cluster) vs) vs) p k j t' p' k'
