-- Lists that hold vertices, for a caller of round after round: what they hold is determined, and what lies behind it is as it was at the first. Assumes nothing.
use mathlib.Core.Path.{◌≡◌, sym, ap, ◌∙◌}
use mathlib.Core.List.{List}
use Prim.Native.Nat.{ℕ, ◌≤◌}
use native.Mathlib.Omega.{arith}
use lib.ListN.{length}
use lib.Seq.{sets}
use lib.Ieee.{Float}
use Rattle.lattice.specs.declared.Sides.{Sides}
use Rattle.points.specs.declared.Frame.{Frame}
use Rattle.stages.specs.Boxes.{Box}
use Rattle.stages.specs.Vertices.{Vertex}
use Rattle.stages.specs.Meshes.{book_of, positions_of}
use Rattle.stages.specs.Rounds.{owners, rollback}
use Rattle.stages.specs.Samples.{position_at}
use Rattle.stages.specs.Stages.{Stage}
use Rattle.stages.proofs.Book.{book_length}
use Rattle.stages.proofs.Turns.{rollback_turns, to_longer}
use Rattle.site_vertices.specs.Inner.Appending.{Space}
use Rattle.site_vertices.proofs.Appending.{positions_three}
use Rattle.rollback.specs.Inner.Rolling.{Holding, Ready, Rolled}
use Rattle.rollback.proofs.Fronts.{front_over}

module _ {f : Frame} {n : Sides} {S : List Float} {b : Box} where
  pub holding_same : {ws vs : List Vertex} {p : List Float} {k : List ℕ} {j : ℕ} {t' : List ℕ} {p' : List Float} {k' : List ℕ}
      → ws ≡ vs → Holding f n S b ws p k j t' p' k' → Holding f n S b vs p k j t' p' k'
  holding_same e o = rw (← e) o

  -- MORE VERTICES OVER FEWER
  pub holding_over : {ws vs : List Vertex} {p p' p'' : List Float} {k k' k'' : List ℕ} {i j : ℕ} {t t' : List ℕ}
      → Holding f n S b ws p k i t p' k' → Holding f n S b vs p' k' j t' p'' k'' → length ws ≤ length vs → Space p k (length vs)
      → Holding f n S b vs p k j t' p'' k''
  holding_over {ws} {vs} {p} {p'} {p''} {k} {k'} {k''} o a h s =
      let P = position_at f n S in
      record {
        next = a.next;
        table = a.table;
        positions = a.positions ∙ ap (λ (y : List Float). sets y 0 (positions_of P vs)) o.positions
            ∙ front_over (positions_of P ws) (positions_of P vs) p (omega (arith, positions_three f n S ws, positions_three f n S vs)) (omega (arith, positions_three f n S vs, s.positions));
        book = a.book ∙ ap (λ (y : List ℕ). sets y 0 (book_of vs)) o.book
            ∙ front_over (book_of ws) (book_of vs) k (omega (arith, book_length ws, book_length vs)) (omega (arith, book_length vs, s.book));
      }

  -- THEY STAND AT THE FRONT OF THE LISTS AS THEY ARE NOW: what the next round takes
  pub holding_again : {ws : List Vertex} {p p' : List Float} {k k' : List ℕ} {j : ℕ} {t : List ℕ} → Holding f n S b ws p k j t p' k' → Space p k (length ws)
      → Holding f n S b ws p' k' j t p' k'
  holding_again {ws} {p} {p'} {k} {k'} o s =
      let P = position_at f n S in
      record {
        next = o.next;
        table = o.table;
        positions = o.positions
            ∙ sym (front_over (positions_of P ws) (positions_of P ws) p (omega arith) (omega (arith, positions_three f n S ws, s.positions)))
            ∙ ap (λ (y : List Float). sets y 0 (positions_of P ws)) (sym o.positions);
        book = o.book ∙ sym (front_over (book_of ws) (book_of ws) k (omega arith) (omega (arith, book_length ws, s.book))) ∙ ap (λ (y : List ℕ). sets y 0 (book_of ws)) (sym o.book);
      }

  pub holding_unique : {ws : List Vertex} {p : List Float} {k : List ℕ} {i j : ℕ} {t t' : List ℕ} {q q' : List Float} {l l' : List ℕ}
      → Holding f n S b ws p k i t q l → Holding f n S b ws p k j t' q' l' → (i ≡ j) × (t ≡ t') × (q ≡ q') × (l ≡ l')
  holding_unique o a = (o.next ∙ sym a.next, o.table ∙ sym a.table, o.positions ∙ sym a.positions, o.book ∙ sym a.book)

-- a round never makes the vertices fewer
pub round_more : (b : Box) (r : ℕ) {vs : List Vertex} → Stage b vs → length vs ≤ length (rollback r (owners b vs) vs)
round_more b r {vs} st = omega (arith, to_longer b r (owners b vs) (length vs) vs, ap length (rollback_turns b r st))

-- WHAT A ROUND PROMISES DETERMINES ITS ANSWER AND EVERY ENTRY OF THE LISTS
pub rolled_unique : (f : Frame) (n : Sides) (S : List Float) (m t : List ℕ) (p : List Float) (k flags : List ℕ) (count round : ℕ) {i j : ℕ} {u u' : List ℕ}
    {q q' : List Float} {l l' : List ℕ} → Ready f n S m t p k flags count round → Rolled f n S m t p k flags count round i u q l
    → Rolled f n S m t p k flags count round j u' q' l' → (i ≡ j) × (u ≡ u') × (q ≡ q') × (l ≡ l')
rolled_unique f n S m t p k flags count round r a c =
    holding_unique (a.lists r.h r.cluster r.vs r.rolling) (c.lists r.h r.cluster r.vs r.rolling)
