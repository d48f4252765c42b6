-- Vertices appended to the lent lists: each paints its number at its edges' places in the edge table, and its position and its row are stored behind those
-- of the vertices before it. Assumes nothing.
use Rattle.std.specs.Prelude.{◌≡◌, List, [], ◌∷◌, map, ℕ, ◌+◌, ◌*◌, ◌≤◌, length, Float}
use Rattle.std.proofs.lemmas.List.Edits.{sets}
use Rattle.laws.specs.Lists.{keep}
use Rattle.lattice.specs.declared.Sides.{Sides}
use Rattle.lattice.specs.Across.{across_of}
use Rattle.points.specs.declared.Frame.{Frame}
use Rattle.stages.specs.Vertices.{Vertex, fresh}
use Rattle.stages.specs.Meshes.{book_of, positions_of}
use Rattle.stages.specs.Samples.{edges_of, point_by, position_at}
use Rattle.stages.specs.Inner.Steps.{paint_from}

-- The vertices ws are appended, the first of them numbered i: from the table t, the positions p and the book k to those with a dash, where j is the next number.
pub record Appended (f : Frame) (n : Sides) (S : List Float) (ws : List Vertex) (i : ℕ) (t : List ℕ) (p : List Float) (k : List ℕ) (j : ℕ) (t' : List ℕ)
    (p' : List Float) (k' : List ℕ) : Type 0 where
  pub next : j ≡ i + length ws
  pub table : t' ≡ paint_from n i ws t
  pub positions : p' ≡ sets p (3 * i) (positions_of (position_at f n S) ws)
  pub book : k' ≡ sets k (4 * i) (book_of ws)

-- there is room for m vertices, and their numbers are small
pub record Space (p : List Float) (k : List ℕ) (m : ℕ) : Type 0 where
  pub positions : 3 * m ≤ length p
  pub book : 4 * m ≤ length k
  pub few : m ≤ 1048576

-- those of a site's edges that have a point
unfoldable pub pointed_of : Sides → List Float → ℕ → List ℕ → List ℕ
pointed_of n S s es = keep (λ e. point_by S s (across_of n s e)) es

-- each of the edges es that has a point as a vertex of its own, made in round r
unfoldable pub singles_in : Sides → List Float → ℕ → ℕ → List ℕ → List Vertex
singles_in n S r s es = map (λ e. fresh r s (e ∷ [])) (pointed_of n S s es)

-- the edges of the mask m so
unfoldable pub singles_of : Sides → List Float → ℕ → ℕ → ℕ → List Vertex
singles_of n S r s m = singles_in n S r s (edges_of m)
