-- One turn of a round by the lists alone: which edges vertex i holds, what takes its place, and when. Assumes nothing.
use Rattle.std.specs.Prelude.{◌≡◌, Bool, true, false, ◌&&◌, List, ℕ, ◌+◌, ◌*◌, ◌<◌, ◌≤◌, eqb, ltb, length, get_or, set, Float}
use Rattle.std.proofs.lemmas.List.Edits.{sets}
use Rattle.laws.specs.Digits.{is_set, mask}
use Rattle.lattice.specs.declared.Sides.{Sides}
use Rattle.lattice.specs.Sites.{sites}
use Rattle.march.specs.March.{none}
use Rattle.points.specs.declared.Frame.{Frame}
use Rattle.stages.specs.Boxes.{owned}
use Rattle.stages.specs.Vertices.{Vertex}
use Rattle.stages.specs.Meshes.{book_of, positions_of}
use Rattle.stages.specs.Samples.{position_at}
use Rattle.stages.specs.Inner.Steps.{paint_from}
use Rattle.site_vertices.specs.Inner.Appending.{Space, singles_of}

-- the edge e of the site s is vertex i's by the table t
unfoldable pub held_at : Sides → List ℕ → ℕ → ℕ → ℕ → Bool
held_at n t s i e = eqb (get_or t (owned n s e) none) i

-- the edges of vertex i: those that its site s has marked, m, and whose places in the edge table have its number
unfoldable pub held_mask : Sides → List ℕ → ℕ → ℕ → ℕ → ℕ
held_mask n t s m i = mask 14 (λ e. is_set m e && held_at n t s i e)

-- what takes the place of vertex i in round r, where k is the book, m the masks and t the edge table
unfoldable pub grown : Sides → List Float → List ℕ → List ℕ → List ℕ → ℕ → ℕ → List Vertex
grown n S m t k i r = singles_of n S r (get_or k (4 * i) 0) (held_mask n t (get_or k (4 * i) 0) (get_or m (get_or k (4 * i) 0) 0) i)

-- vertex i is a live cluster vertex of a flagged site
unfoldable pub due : List ℕ → List ℕ → ℕ → Bool
due k flags i = ltb 1 (get_or k (4 * i + 1) 0) && eqb (get_or flags (get_or k (4 * i) 0) 0) 1

-- vertex i has a row, its site is in the box, and the edge table has its places
pub record Placed (n : Sides) (t k : List ℕ) (i : ℕ) : Type 0 where
  pub table : 7 * sites n ≤ length t
  pub row : 4 * i + 4 ≤ length k
  pub site : get_or k (4 * i) 0 < sites n
  pub few : i < 1048576

-- what a turn needs: its vertex, and room for what it appends where vertex i is due
pub record Turnable (n : Sides) (S : List Float) (m flags : List ℕ) (i c round : ℕ) (t : List ℕ) (p : List Float) (k : List ℕ) : Type 0 where
  pub placed : Placed n t k i
  pub room : due k flags i ≡ true → Space p k (c + length (grown n S m t k i round))

-- The vertices us take the place of vertex i: they are appended, the first of them numbered c, and it is retired.
pub record Replaced (f : Frame) (n : Sides) (S : List Float) (us : List Vertex) (i c : ℕ) (t : List ℕ) (p : List Float) (k : List ℕ) (j : ℕ) (t' : List ℕ)
    (p' : List Float) (k' : List ℕ) : Type 0 where
  pub next : j ≡ c + length us
  pub table : t' ≡ paint_from n c us t
  pub positions : p' ≡ sets p (3 * c) (positions_of (position_at f n S) us)
  pub book : k' ≡ set (sets k (4 * c) (book_of us)) (4 * i + 1) 0

-- the turn: where vertex i is due it is replaced, and else nothing changes
pub record Turned (f : Frame) (n : Sides) (S : List Float) (m flags : List ℕ) (i c round : ℕ) (t : List ℕ) (p : List Float) (k : List ℕ) (j : ℕ) (t' : List ℕ)
    (p' : List Float) (k' : List ℕ) : Type 0 where
  pub rolled : due k flags i ≡ true → Replaced f n S (grown n S m t k i round) i c t p k j t' p' k'
  pub same_next : due k flags i ≡ false → j ≡ c
  pub same_table : due k flags i ≡ false → t' ≡ t
  pub same_positions : due k flags i ≡ false → p' ≡ p
  pub same_book : due k flags i ≡ false → k' ≡ k
