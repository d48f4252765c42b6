-- A vertex pass by the ends of pairs, and the march over its table: the candidates with the split ones' edges apart. Assumes nothing.
use mathlib.Core.Path.{◌≡◌, sym, ap, ◌∙◌}
use mathlib.Core.Bool.{Bool}
use mathlib.Core.List.{List}
use Prim.Native.Nat.{ℕ, ◌*◌, ◌≤◌}
use native.Mathlib.Omega.{arith}
use lib.ListN.{length}
use lib.Ieee.{Float}
use Rattle.laws.specs.Written.{Written}
use Rattle.laws.specs.Triangles.{flat}
use Rattle.lattice.specs.Sites.{SidesFit}
use Rattle.march.specs.March.{march}
use Rattle.march.specs.Lists as lists
use Rattle.stages.specs.Vertices.{Vertex, candidates}
use Rattle.stages.specs.Splits.{end_of, place, place_by, split_count}
use Rattle.stages.specs.Samples.{box_of}
use Rattle.stages.specs.Stages.{Stage, parted}
use Rattle.stages.proofs.Splits.{place_longer, place_same, split-same}
use Rattle.stages.proofs.Demand.{sample_sound}
use Rattle.stages.proofs.Table.{stage_painted}
use Rattle.refusals.specs.Refusals.{most}
use Rattle.site_vertices.proofs.Appending.{appended_same}
use Rattle.vertex_pass.specs.declared.Walk.{Walk}
use Rattle.vertex_pass.specs.Inner.Passing as passing
use Rattle.vertex_pass.specs.Inner.Passing.{Ahead, start}
use Rattle.rollback.specs.Inner.Rolling.{Holding}
use Rattle.engine.specs.declared.Job.{Job}
use Rattle.engine.specs.declared.Stand.{Stand}
use Rattle.engine.specs.Engine.{work, job_box}
use Rattle.engine.specs.Inner.Standing.{Paired, Standing}
use Rattle.engine.proofs.Standing.{stage_space, stands}

module _ (j : Job) (S : List Float) (q : ℕ → Bool) (fit : SidesFit j.sides) (x : Paired j S q) where
  vs : List Vertex
  vs = place x.pairs 0 (candidates (job_box j S))

  by_flags : place_by q 0 (candidates (job_box j S)) ≡ vs
  unfolding vs
  by_flags =
      place_same q (end_of x.pairs) 0 (candidates (job_box j S)) (λ v l. x.same v (omega arith))

  -- ROOM FOR THE PASS
  pub pass_ahead : (p : List Float) (k : List ℕ) → 3 * most j.sides S j.threshold ≤ length p → 4 * most j.sides S j.threshold ≤ length k → Ahead q (candidates (job_box j S)) start p k
  unfolding start vs
  pass_ahead p k lp lk =
      let st : Stage (job_box j S) vs = parted x.pairs in
      let s = stage_space j S fit p k st lp lk in
      let e : length (place_by q 0 (candidates (job_box j S))) ≡ length vs = ap length by_flags in
      record {
        space = record { positions = omega (arith, s.positions, e); book = omega (arith, s.book, e); few = omega (arith, s.few, e) };
        tried = omega (arith, s.few, place_longer (end_of x.pairs) 0 (candidates (job_box j S)));
        split = omega arith;
      }

  module _ (w : Walk) {p p' : List Float} {k t' k' : List ℕ} (d : passing.Drawn j.frame j.sides S j.threshold j.cluster q p k w t' p' k') where
    -- WHAT THE PASS LEAVES
    held-lists : Holding j.frame j.sides S (job_box j S) vs p k w.pass.next t' p' k'
    unfolding start vs box_of
    held-lists =
        let a = appended_same j.frame j.sides S by_flags d.passed.vertices in
        let b = job_box j S in
        record {
          next = omega (arith, a.next);
          table = a.table ∙ sym (stage_painted b (sample_sound j.sides S j.threshold j.cluster fit) (parted x.pairs));
          positions = a.positions;
          book = a.book;
        }

    pub pass_stands : (c : Stand) {tr tr' : List ℕ} → c.vertices ≡ w.pass.next
        → Written tr 0 (flat (march (lists.field_of j.sides S j.threshold t'))) tr' (3 * c.triangles)
        → (t : List ℕ) → Standing j S (place x.pairs 0 (candidates (job_box j S))) (work t p k tr) c (work t' p' k' tr')
    unfolding vs
    pass_stands c e m t = stands c (rw e held-lists) m

    pub pass_split : w.pass.split ≡ split_count x.pairs 0 (candidates (job_box j S))
    unfolding start
    pass_split =
        let c = candidates (job_box j S) in
        omega (arith, d.passed.split, split-same q (end_of x.pairs) 0 c (λ v l. x.same v (omega arith)))
