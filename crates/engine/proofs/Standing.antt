-- Vertices and their mesh in the lent lists: room for them, one stage over another, and the lists as they are now. Assumes nothing.
use mathlib.Core.Path.{◌≡◌, sym, ap, ◌∙◌}
use mathlib.Core.List.{List}
use Prim.Native.Nat.{ℕ, ◌+◌, ◌*◌, ◌≤◌}
use native.Mathlib.Omega.{arith}
use lib.ListN.{length}
use lib.Seq.{sets}
use lib.Ieee.{Float}
use Rattle.laws.specs.Written.{Written}
use Rattle.laws.specs.Triangles.{Tri, flat}
use Rattle.laws.proofs.Triangles.{flat-length}
use Rattle.lattice.specs.Sites.{SidesFit, cells}
use Rattle.march.specs.March.{march}
use Rattle.march.specs.Lists as lists
use Rattle.march.proofs.March.{march-le}
use Rattle.stages.specs.Vertices.{Vertex}
use Rattle.stages.specs.Meshes.{field_of, mesh_of, table_of}
use Rattle.stages.specs.Samples.{box_of}
use Rattle.stages.specs.Stages.{Stage}
use Rattle.stages.proofs.Room.{stage_room}
use Rattle.stages.proofs.Demand.{edges_most}
use Rattle.stages.proofs.Marched.{mesh_marched}
use Rattle.refusals.specs.Refusals.{most}
use Rattle.refusals.proofs.Status.{most-most}
use Rattle.site_vertices.specs.Inner.Appending.{Space}
use Rattle.rollback.specs.Inner.Rolling.{Holding}
use Rattle.rollback.proofs.Fronts.{front_over}
use Rattle.rollback.proofs.Holding.{holding_again, holding_over}
use Rattle.engine.specs.declared.Job.{Job}
use Rattle.engine.specs.declared.Stand.{Stand}
use Rattle.engine.specs.Engine.{Work, job_box}
use Rattle.engine.specs.Inner.Standing.{Roomy, Standing}

-- ---- room

module _ (j : Job) (S : List Float) (fit : SidesFit j.sides) where
  -- NO STAGE HAS MORE THAN X VERTICES
  pub stage_most : {vs : List Vertex} → Stage (job_box j S) vs → length vs ≤ most j.sides S j.threshold
  unfolding most
  stage_most st = omega (arith, stage_room (job_box j S) st, edges_most j.sides S j.threshold j.cluster fit)

  pub stage_space : {vs : List Vertex} (p : List Float) (k : List ℕ) → Stage (job_box j S) vs → 3 * most j.sides S j.threshold ≤ length p → 4 * most j.sides S j.threshold ≤ length k
      → Space p k (length vs)
  stage_space p k st lp lk =
      let l = stage_most st in
      record { positions = omega (arith, l, lp); book = omega (arith, l, lk); few = omega (arith, l, most-most j.sides S j.threshold fit) }

  -- twelve triangles a cell
  pub mesh_room : (vs : List Vertex) (tr : List ℕ) → 36 * cells j.sides ≤ length tr → length (flat (mesh_of (job_box j S) vs)) ≤ length tr
  unfolding mesh_of field_of box_of
  mesh_room vs tr l = omega (arith, flat-length (mesh_of (job_box j S) vs), march-le (field_of (job_box j S) vs))

-- the lists after a pass
pub roomy_after : {j : Job} {S : List Float} {m : List ℕ} {l l' : Work} {room room' : List ℕ} → Roomy j S m l room → length l'.table ≡ length l.table
    → length l'.positions ≡ length l.positions → length l'.book ≡ length l.book → length l'.triangles ≡ length l.triangles → length room' ≡ length room
    → Roomy j S m l' room'
roomy_after R lt lp lk ltr lr = record {
  lists = record {
    masked = R.lists.masked;
    table = lt ∙ R.lists.table;
    positions = omega (arith, lp, R.lists.positions);
    book = omega (arith, lk, R.lists.book);
    triangles = ltr ∙ R.lists.triangles;
  };
  rounds = R.rounds;
  edges = lr ∙ R.edges;
}

module _ (j : Job) (S : List Float) where
  -- THE MARCH OVER THE TABLE OF VERTICES IS THEIR MESH
  pub marched : (vs : List Vertex) (t tr tr' : List ℕ) (r : ℕ) → t ≡ table_of (job_box j S) vs → Written tr 0 (flat (march (lists.field_of j.sides S j.threshold t))) tr' (3 * r)
      → (tr' ≡ sets tr 0 (flat (mesh_of (job_box j S) vs))) × (r ≡ length (mesh_of (job_box j S) vs))
  marched vs t tr tr' r e w =
      let q : march (lists.field_of j.sides S j.threshold t) ≡ mesh_of (job_box j S) vs = ap (λ (x : List ℕ). march (lists.field_of j.sides S j.threshold x)) e ∙ mesh_marched j.sides S j.threshold j.cluster vs in
      let z : 3 * r ≡ 0 + length (flat (mesh_of (job_box j S) vs)) = w.next ∙ ap (λ (x : List Tri). 0 + length (flat x)) q in
      (w.buf ∙ ap (λ (x : List Tri). sets tr 0 (flat x)) q, omega (arith, z, flat-length (mesh_of (job_box j S) vs)))

module _ {j : Job} {S : List Float} where
  pub stands : {vs : List Vertex} {l l' : Work} (c : Stand)
      → Holding j.frame j.sides S (job_box j S) vs l.positions l.book c.vertices l'.table l'.positions l'.book
      → Written l.triangles 0 (flat (march (lists.field_of j.sides S j.threshold l'.table))) l'.triangles (3 * c.triangles) → Standing j S vs l c l'
  stands {vs} {l} {l'} c o w =
      let m = marched j S vs l'.table l.triangles l'.triangles c.triangles o.table w in record { lists = o; mesh = m.0; triangles = m.1 }

  pub stands_same : {ws vs : List Vertex} {l l' : Work} {c : Stand} → ws ≡ vs → Standing j S ws l c l' → Standing j S vs l c l'
  stands_same e o = rw (← e) o

  -- ONE STAGE OVER ANOTHER
  pub stands_over : {ws vs : List Vertex} {l l' l'' : Work} {c d : Stand} → Standing j S ws l c l' → Standing j S vs l' d l''
      → length ws ≤ length vs → Space l.positions l.book (length vs)
      → length (mesh_of (job_box j S) ws) ≤ length (mesh_of (job_box j S) vs) → length (flat (mesh_of (job_box j S) vs)) ≤ length l.triangles → Standing j S vs l d l''
  stands_over {ws} {vs} {l} o a few s m z =
      let b = job_box j S in
      record {
        lists = holding_over o.lists a.lists few s;
        mesh = a.mesh ∙ ap (λ (x : List ℕ). sets x 0 (flat (mesh_of b vs))) o.mesh
            ∙ front_over (flat (mesh_of b ws)) (flat (mesh_of b vs)) l.triangles (omega (arith, flat-length (mesh_of b ws), flat-length (mesh_of b vs))) z;
        triangles = a.triangles;
      }

  -- THE LISTS AS THEY ARE NOW
  pub stands_again : {vs : List Vertex} {l l' : Work} {c : Stand} → Standing j S vs l c l' → Space l.positions l.book (length vs)
      → length (flat (mesh_of (job_box j S) vs)) ≤ length l.triangles → Standing j S vs l' c l'
  stands_again {vs} {l} o s z =
      let m = flat (mesh_of (job_box j S) vs) in
      record {
        lists = holding_again o.lists s;
        mesh = o.mesh ∙ sym (front_over m m l.triangles (omega arith) z) ∙ ap (λ (x : List ℕ). sets x 0 m) (sym o.mesh);
        triangles = o.triangles;
      }
