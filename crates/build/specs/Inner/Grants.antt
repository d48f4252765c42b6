-- A granted request: what it needs of the lists, and what it leaves in them. Assumes nothing.
use Rattle.std.specs.Prelude.{◌≡◌, List, ℕ, ◌*◌, ◌≤◌, eqb, length, get_or, replicate, Float}
use Rattle.laws.specs.Triangles.{flat}
use Rattle.lattice.specs.Sites.{SidesFit, sites, cells}
use Rattle.marks.specs.Marks.{masks_of}
use Rattle.stages.specs.Meshes.{table_of, book_of, positions_of, mesh_of}
use Rattle.stages.specs.Samples.{position_at}
use Rattle.refusals.specs.Refusals.{most}
use Rattle.engine.specs.declared.Job.{Job}
use Rattle.engine.specs.declared.Made.{Made}
use Rattle.engine.specs.Engine.{job_box, job_vertices, job_made}
use Rattle.build.specs.declared.Answer.{Answer}
use Rattle.build.specs.Answer.{Order, Lists, lists, overlaid}

-- the job of an order
abbrev pub job_of : Order → Job
job_of o = record { frame = o.frame; sides = o.sides; cluster = eqb o.method 1; rounds = o.rounds; threshold = o.threshold }

-- the lists are long enough
pub record Grantable (j : Job) (S : List Float) (l : Lists) : Type 0 where
  pub fit : SidesFit j.sides
  pub rounds : j.rounds ≤ 4
  pub samples : sites j.sides ≤ length S
  pub masks : sites j.sides ≤ length l.masks
  pub table : 7 * sites j.sides ≤ length l.table
  pub positions : 3 * most j.sides S j.threshold ≤ length l.positions
  pub book : 4 * most j.sides S j.threshold ≤ length l.book
  pub triangles : 36 * cells j.sides ≤ length l.triangles
  pub edges : 108 * cells j.sides ≤ length l.edges

-- the counts in their places
unfoldable pub made_answer : ℕ → Made → Answer
made_answer crossed z = record {
  status = 0;
  crossed = crossed;
  vertices = z.stand.vertices;
  triangles = z.stand.triangles;
  closed = get_or z.cases 0 0;
  multihole = get_or z.cases 1 0;
  flathole = get_or z.cases 2 0;
  multisurface = get_or z.cases 3 0;
  simple = get_or z.cases 4 0;
  split = z.split;
  rounds = z.rounds;
}

-- what was made in front of what was there
abbrev pub granted_lists : Job → List Float → Lists → Lists
granted_lists j S l =
    lists (overlaid (masks_of j.sides S j.threshold) l.masks) (overlaid (table_of (job_box j S) (job_vertices j S)) l.table)
    (overlaid (positions_of (position_at j.frame j.sides S) (job_vertices j S)) l.positions) (overlaid (book_of (job_vertices j S)) l.book)
    (overlaid (flat (mesh_of (job_box j S) (job_vertices j S))) l.triangles) (overlaid (replicate (108 * cells j.sides) 0) l.edges)

pub record Grants (j : Job) (S : List Float) (crossed : ℕ) (l l' : Lists) (a : Answer) : Type 0 where
  pub answer : a ≡ made_answer crossed (job_made j S)
  pub after : l' ≡ granted_lists j S l
