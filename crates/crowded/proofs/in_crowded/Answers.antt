-- `crowded::in_crowded` meets its contract. Assumes nothing.
use Rattle.std.proofs.Common.{sym, ◌∙◌, arith, eqb-true, eq-eqb}
use mathlib.Core.Bool.{false≢true}
use Rattle.pairs.specs.Sides.{next}
use Rattle.crowded.proofs.Turns.{flagged-first, flagged_second, flagged-third}
use Rattle.crowded.proofs.in_crowded.Goals as goal
use Rattle.crowded.proofs.in_crowded.Goals.{then-room-k-eq1, else-room-k-eq1}

pub next_corner-m-requires : goal.next_corner-m-requires
unfolding next
next_corner-m-requires c = omega (arith, c.next_corner-n.ensures)

pub offset_bounds-room-n : goal.offset_bounds-room-n
unfolding next
offset_bounds-room-n c = omega (arith, c.next_corner-n.ensures, c.next_corner-m.ensures)

pub bounds-room-n : goal.bounds-room-n
unfolding next
bounds-room-n c = omega (arith, c.next_corner-n.ensures, c.next_corner-m.ensures)

pub offset_bounds-room-m : goal.offset_bounds-room-m
unfolding next
offset_bounds-room-m c = omega (arith, c.next_corner-n.ensures, c.next_corner-m.ensures)

pub bounds-room-m : goal.bounds-room-m
unfolding next
bounds-room-m c = omega (arith, c.next_corner-n.ensures, c.next_corner-m.ensures)

pub returns-else-room-n-eq1 : goal.returns-else-room-n-eq1
returns-else-room-n-eq1 c = let l = c.args.room.now in
    let n = c.next_corner-n in
    let m = c.next_corner-m in
    elim c.if-room-k-eq1.branch [
      | then-room-k-eq1 w ↦ absurd (false≢true (sym c.if-room-n-eq1.false ∙ w.value-is ∙ eq-eqb _ _ w.if-room-k-eq1.true))
      | else-room-k-eq1 w ↦ flagged-third l c.args.k n.result m.result n.ensures m.ensures w.if-room-k-eq1.false (λ e. false≢true (sym c.if-room-n-eq1.false ∙ w.value-is ∙ eq-eqb _ _ e))
    ]

pub returns-then-room-n-eq1 : goal.returns-then-room-n-eq1
returns-then-room-n-eq1 c = let l = c.args.room.now in
    let n = c.next_corner-n in
    let m = c.next_corner-m in
    elim c.if-room-k-eq1.branch [
      | then-room-k-eq1 w ↦ c.if-room-n-eq1.true ∙ flagged-first l c.args.k w.if-room-k-eq1.true
      | else-room-k-eq1 w ↦ c.if-room-n-eq1.true ∙ flagged_second l c.args.k n.result m.result n.ensures m.ensures w.if-room-k-eq1.false (eqb-true _ _ (sym w.value-is ∙ c.if-room-n-eq1.true))
    ]
