-- What stands in the lent lists between the stages of a build. Assumes nothing.
use Rattle.std.specs.Prelude.{◌≡◌, Option, IfNone, IfSome, OnSome, Bool, List, [], ◌∷◌, ℕ, ◌*◌, ◌<◌, ◌≤◌, length, drop, Float}
use Rattle.std.proofs.lemmas.List.Edits.{sets}
use Rattle.laws.specs.Couples.{Pair}
use Rattle.laws.specs.Triangles.{flat}
use Rattle.lattice.specs.Sites.{sites, cells}
use Rattle.stages.specs.Vertices.{Vertex, candidates}
use Rattle.stages.specs.Meshes.{mesh_of}
use Rattle.stages.specs.Splits.{crowded_pairs, end_of, place, split, split_count}
use Rattle.stages.specs.Rounds.{owners, rollback, rounds, rounds_done}
use Rattle.stages.specs.Stages.{Stage}
use Rattle.refusals.specs.Refusals.{most}
use Rattle.vertex_pass.specs.Inner.Passing.{Masked, cases_to, flag_of}
use Rattle.rollback.specs.Inner.Rolling.{Holding}
use Rattle.engine.specs.declared.Job.{Job}
use Rattle.engine.specs.declared.Stand.{Stand}
use Rattle.engine.specs.declared.Drawn.{Drawn}
use Rattle.engine.specs.declared.Rolled.{Rolled}
use Rattle.engine.specs.declared.Made.{Made}
use Rattle.engine.specs.Engine.{Work, job_box, job_vertices}

-- the lists are as long as they have to be, and the masks are found; first without the working list
pub record Lent (j : Job) (S : List Float) (m : List ℕ) (l : Work) : Type 0 where
  pub masked : Masked j.sides S j.threshold m
  pub table : length l.table ≡ 7 * sites j.sides
  pub positions : 3 * most j.sides S j.threshold ≤ length l.positions
  pub book : 4 * most j.sides S j.threshold ≤ length l.book
  pub triangles : length l.triangles ≡ 36 * cells j.sides

pub record Roomy (j : Job) (S : List Float) (m : List ℕ) (l : Work) (room : List ℕ) : Type 0 where
  pub lists : Lent j S m l
  pub rounds : j.rounds ≤ 4
  pub edges : length room ≡ 108 * cells j.sides

-- q flags the ends of some pairs
pub record Paired (j : Job) (S : List Float) (q : ℕ → Bool) : Type 0 where
  pub pairs : List Pair
  pub same : (v : ℕ) → v < length (candidates (job_box j S)) → q v ≡ end_of pairs v

-- the words of the working list from 36C on are the flags of the ends of crowded pairs
pub record Parting (j : Job) (S : List Float) (room : List ℕ) : Type 0 where
  pub flags : (v : ℕ) → v < length (candidates (job_box j S)) → flag_of (drop (36 * cells j.sides) room) v ≡ end_of (crowded_pairs (job_box j S)) v

-- the vertices vs and their mesh stand in the lists l', over l; c says how many there are
pub record Standing (j : Job) (S : List Float) (vs : List Vertex) (l : Work) (c : Stand) (l' : Work) : Type 0 where
  pub lists : Holding j.frame j.sides S (job_box j S) vs l.positions l.book c.vertices l'.table l'.positions l'.book
  pub mesh : l'.triangles ≡ sets l.triangles 0 (flat (mesh_of (job_box j S) vs))
  pub triangles : c.triangles ≡ length (mesh_of (job_box j S) vs)

-- the vertex pass with a march
pub record Placed (j : Job) (S : List Float) (q : ℕ → Bool) (l : Work) (r : Drawn) (l' : Work) : Type 0 where
  pub stands : (x : Paired j S q) → Standing j S (place x.pairs 0 (candidates (job_box j S))) l r.stand l'
  pub split : (x : Paired j S q) → r.split ≡ split_count x.pairs 0 (candidates (job_box j S))
  pub cases : r.cases ≡ cases_to j.sides S j.threshold j.cluster (sites j.sides)

-- ---- one round and all of them: for whatever vertices stand in the lists

pub record Stood (j : Job) (S : List Float) (c : Stand) (l : Work) : Type 0 where
  pub vertices : List Vertex
  pub stage : Stage (job_box j S) vertices
  pub stands : Standing j S vertices l c l

module _ (j : Job) (S : List Float) (c : Stand) (l : Work) where
  -- round r: no owner, no round; else the rollback and its mesh
  pub record Turned (x : Stood j S c l) (r : ℕ) (z : Option Stand) (l' : Work) : Type 0 where
    pub none : IfNone z (owners (job_box j S) x.vertices ≡ [])
    pub same : IfNone z (l' ≡ l)
    pub some : OnSome z ((s : ℕ) × (os : List ℕ) × (owners (job_box j S) x.vertices ≡ s ∷ os))
    pub stands : IfSome z (λ d. Standing j S (rollback r (owners (job_box j S) x.vertices) x.vertices) l d l')

  -- all rounds of the job
  pub record Settled (x : Stood j S c l) (z : Rolled) (l' : Work) : Type 0 where
    pub stands : Standing j S (rounds (job_box j S) j.rounds 1 x.vertices) l z.stand l'
    pub done : z.rounds ≡ rounds_done (job_box j S) j.rounds 1 x.vertices

  -- for all that may stand there
  abbrev pub TurnedAll : ℕ → Option Stand → Work → Type 0
  TurnedAll r z l' = (x : Stood j S c l) → Turned x r z l'

  abbrev pub SettledAll : Rolled → Work → Type 0
  SettledAll z l' = (x : Stood j S c l) → Settled x z l'

-- ---- the whole

pub record Finished (j : Job) (S : List Float) (l : Work) (z : Made) (l' : Work) : Type 0 where
  pub stands : Standing j S (job_vertices j S) l z.stand l'
  pub is_split : z.split ≡ split_count (crowded_pairs (job_box j S)) 0 (candidates (job_box j S))
  pub is_rounds : z.rounds ≡ rounds_done (job_box j S) j.rounds 1 (split (job_box j S))
  pub is_cases : z.cases ≡ cases_to j.sides S j.threshold j.cluster (sites j.sides)
