-- What the engine makes of a granted request: the counts, and all entries of the lists that it is lent. Assumes nothing.
use Rattle.std.specs.Prelude.{◌≡◌, List, [], ◌∷◌, ℕ, ◌*◌, ◌≤◌, length, replicate, Float}
use Rattle.std.proofs.lemmas.List.Edits.{sets}
use Rattle.laws.specs.Ranges.{each}
use Rattle.laws.specs.Triangles.{flat}
use Rattle.lattice.specs.Sites.{SidesFit, sites, cells}
use Rattle.marks.specs.Marks.{masks_of}
use Rattle.stages.specs.Boxes.{Box}
use Rattle.stages.specs.Vertices.{Vertex, candidates}
use Rattle.stages.specs.Meshes.{table_of, book_of, positions_of, mesh_of}
use Rattle.stages.specs.Splits.{crowded_pairs, split, split_count}
use Rattle.stages.specs.Rounds.{built, rounds_done}
use Rattle.stages.specs.Samples.{box_of, position_at, case_count}
use Rattle.refusals.specs.Refusals.{most}
use Rattle.engine.specs.declared.Job.{Job}
use Rattle.engine.specs.declared.Made.{Made}

-- the four lists that every stage fills
pub record Work : Type 0 where
  pub table : List ℕ
  pub positions : List Float
  pub book : List ℕ
  pub triangles : List ℕ

abbrev pub work : (table : List ℕ) (positions : List Float) (book triangles : List ℕ) → Work
work t p k tr = record { table = t; positions = p; book = k; triangles = tr }

-- the box of a job and the samples S, and its vertices after the last round
abbrev pub job_box : Job → List Float → Box
job_box j S = box_of j.sides S j.threshold j.cluster

abbrev pub job_vertices : Job → List Float → List Vertex
job_vertices j S = built (job_box j S) j.rounds

-- the lists hold vertices and their mesh in front, and behind that what they held; the edge table is theirs whole
abbrev pub work_of : Job → List Float → List Vertex → Work → Work
work_of j S vs l =
    work (table_of (job_box j S) vs) (sets l.positions 0 (positions_of (position_at j.frame j.sides S) vs)) (sets l.book 0 (book_of vs))
    (sets l.triangles 0 (flat (mesh_of (job_box j S) vs)))

abbrev pub job_made : Job → List Float → Made
job_made j S = record {
  stand = record { vertices = length (job_vertices j S); triangles = length (mesh_of (job_box j S) (job_vertices j S)) };
  split = split_count (crowded_pairs (job_box j S)) 0 (candidates (job_box j S));
  rounds = rounds_done (job_box j S) j.rounds 1 (split (job_box j S));
  cases = each 6 (λ i. case_count j.sides S j.threshold j.cluster (sites j.sides) i ∷ []);
}

-- what the engine is handed: a granted request, and the used parts of the lists
pub record Handed (j : Job) (S : List Float) (m : List ℕ) (l : Work) (room : List ℕ) : Type 0 where
  pub fit : SidesFit j.sides
  pub rounds : j.rounds ≤ 4
  pub samples : sites j.sides ≤ length S
  pub masks : length m ≡ sites j.sides
  pub table : length l.table ≡ 7 * sites j.sides
  pub positions : 3 * most j.sides S j.threshold ≤ length l.positions
  pub book : 4 * most j.sides S j.threshold ≤ length l.book
  pub triangles : length l.triangles ≡ 36 * cells j.sides
  pub edges : length room ≡ 108 * cells j.sides

-- what it promises: the counts, the masks, the four lists, and zeros in the edge list
pub record Ran (j : Job) (S : List Float) (l : Work) (z : Made) (m' : List ℕ) (l' : Work) (room' : List ℕ) : Type 0 where
  pub made : z ≡ job_made j S
  pub masks : m' ≡ masks_of j.sides S j.threshold
  pub lists : l' ≡ work_of j S (job_vertices j S) l
  pub edges : room' ≡ replicate (108 * cells j.sides) 0
