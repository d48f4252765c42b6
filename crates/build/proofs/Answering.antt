-- The answer and the lists at the end: as lent where the request is refused, else what was made in front of what was there. Assumes nothing.
use mathlib.Core.Path.{◌≡◌, sym, ap, ◌∙◌}
use mathlib.Core.Bool.{Bool, cond}
use mathlib.Core.List.{List}
use Prim.Native.Nat.{ℕ, ◌*◌, ◌≤◌, ◌<◌}
use native.Mathlib.Omega.{arith}
use lib.Dec.{eqb}
use borrow.Author.Tests.{eq-eqb, ne_eqb}
use lib.ListN.{length, get_or, replicate}
use Rattle.laws.specs.Triangles.{flat}
use Rattle.laws.proofs.Ranges.{each-one-at}
use Rattle.lattice.specs.Sites.{cells, sites}
use Rattle.marks.specs.Marks.{crossed_count, masks_of}
use Rattle.stages.specs.Meshes.{mesh_of}
use Rattle.stages.specs.Samples.{case_count}
use Rattle.refusals.specs.declared.Lengths.{Lengths}
use Rattle.refusals.specs.Refusals.{most}
use Rattle.refusals.specs.Inner.Granted.{Granted}
use Rattle.refusals.proofs.Granted.{granted}
use Rattle.engine.specs.Engine.{job_made}
use Rattle.build.specs.declared.Answer.{Answer}
use Rattle.build.specs.Answer.{Order, Lists, BuildOf, answer_of, done_answer, lengths_of, lists, order_book, order_box, order_cases, order_positions, order_table, order_triangles, order_vertices, overlaid, refused_answer, status, written}
use Rattle.build.specs.Inner.Grants.{Grantable, Grants, job_of, made_answer}
use Rattle.build.proofs.Grants.{job_room}

module _ (o : Order) where
  -- ---- refused

  module _ (no : status o ≡ 0 → ⊥) where
    stays : {A : Type 0} (xs l : List A) → l ≡ written o xs l
    stays xs l = sym (ap (λ (c : Bool). cond c (overlaid xs l) l) (ne_eqb (status o) 0 no))

    -- NO COUNT, AND EVERY LIST AS IT WAS
    pub refused-build : {l : Lists} {a : Answer} {k : ℕ} → k ≡ status o → a ≡ refused_answer k → BuildOf o l l a
    unfolding answer_of
    refused-build {l} e ea = record {
      answer = ea ∙ ap refused_answer e ∙ sym (ap (λ (c : Bool). cond c (done_answer o) (refused_answer (status o))) (ne_eqb (status o) 0 no));
      after = λ i. lists (stays (masks_of o.sides o.samples o.threshold) l.masks i) (stays (order_table o) l.table i) (stays (order_positions o) l.positions i)
          (stays (order_book o) l.book i) (stays (order_triangles o) l.triangles i) (stays (replicate (108 * cells o.sides) 0) l.edges i);
    }

  -- ---- done

  module _ (ok : status o ≡ 0) where
    pub order_granted : Granted o.sides o.method o.rounds o.frame o.samples o.lent o.threshold
    order_granted = granted o.sides o.method o.rounds o.frame o.samples o.lent o.threshold ok

    -- never more than X vertices, never more than twelve triangles a cell
    pub done-room : (length (order_vertices o) ≤ most o.sides o.samples o.threshold) × (length (flat (mesh_of (order_box o) (order_vertices o))) ≤ 36 * cells o.sides)
    unfolding order_vertices order_box
    done-room = job_room (job_of o) o.samples order_granted.fit

    -- what a granted order needs is there
    pub order_grantable : {l : Lists} → o.lent ≡ lengths_of l → Grantable (job_of o) o.samples l
    order_grantable e =
        let g = order_granted in
        record {
          fit = g.fit;
          rounds = g.rounds_low;
          samples = omega (arith, g.samples);
          masks = omega (arith, g.masks, ap (λ (y : Lengths). y.masks) e);
          table = omega (arith, g.table, ap (λ (y : Lengths). y.table) e);
          positions = omega (arith, g.vertices, ap (λ (y : Lengths). y.vertices) e);
          book = omega (arith, g.book, ap (λ (y : Lengths). y.book) e);
          triangles = omega (arith, g.triangles, ap (λ (y : Lengths). y.triangles) e);
          edges = omega (arith, g.edges, ap (λ (y : Lengths). y.edges) e);
        }

    stored : {A : Type 0} (xs l : List A) → overlaid xs l ≡ written o xs l
    stored xs l = sym (ap (λ (c : Bool). cond c (overlaid xs l) l) (eq-eqb (status o) 0 ok))

    case : (i : ℕ) → i < 6 → get_or (job_made (job_of o) o.samples).cases i 0 ≡ order_cases o i
    unfolding order_cases
    case i h = each-one-at 0 6 (case_count o.sides o.samples o.threshold (eqb o.method 1) (sites o.sides)) i h

    -- WHAT WAS GRANTED IS THE ANSWER
    pub done-build : {l l' : Lists} {a : Answer} {x : ℕ} → x ≡ crossed_count o.sides o.samples o.threshold → Grants (job_of o) o.samples x l l' a → BuildOf o l l' a
    unfolding answer_of done_answer made_answer order_box order_vertices
    done-build {l} ex G = record {
      answer = G.answer
          ∙ (λ i. record {
            status = 0;
            crossed = ex i;
            vertices = length (order_vertices o);
            triangles = length (mesh_of (order_box o) (order_vertices o));
            closed = case 0 (omega arith) i;
            multihole = case 1 (omega arith) i;
            flathole = case 2 (omega arith) i;
            multisurface = case 3 (omega arith) i;
            simple = case 4 (omega arith) i;
            split = (job_made (job_of o) o.samples).split;
            rounds = (job_made (job_of o) o.samples).rounds;
          })
          ∙ sym (ap (λ (y : Bool). cond y (done_answer o) (refused_answer (status o))) (eq-eqb (status o) 0 ok));
      after = G.after
          ∙ (λ i. lists (stored (masks_of o.sides o.samples o.threshold) l.masks i) (stored (order_table o) l.table i) (stored (order_positions o) l.positions i)
          (stored (order_book o) l.book i) (stored (order_triangles o) l.triangles i) (stored (replicate (108 * cells o.sides) 0) l.edges i));
    }
