-- `topology::would_collapse` meets its contract. Assumes nothing.
use Rattle.std.proofs.Common.{◌≡◌, Bool, true, false, ◌&&◌, sym, ap, ◌∙◌}
use Rattle.samples.specs.Sides.{is_near}
use Rattle.topology.specs.Flat.{collapses}
use Rattle.topology.proofs.would_collapse.Goals as goal
use Rattle.topology.proofs.would_collapse.Goals.{then-is_near, else-is_near, then-is_near-2, else-is_near-2}

-- `p && q`: the second test is made where the first passes
and_both : (p q x A B : Bool) → p ≡ A → p ≡ true → q ≡ B → x ≡ q → x ≡ A && B
and_both p q x A B e t f j = j ∙ f ∙ ap (λ (z : Bool). z && B) (sym t ∙ e)

and_first : (p x A B : Bool) → p ≡ A → p ≡ false → x ≡ p → x ≡ A && B
and_first p x A B e t j = j ∙ t ∙ ap (λ (z : Bool). z && B) (sym t ∙ e)

pub returns-then-near_a : goal.returns-then-near_a
unfolding collapses
returns-then-near_a c =
    let near_a : c.if-is_near.near_a ≡ is_near c.args.a c.args.d c.args.h && is_near c.args.a c.args.c c.args.h =
    elim c.if-is_near.branch [
      | then-is_near w ↦ and_both _ _ _ _ _ c.is_near.ensures w.if-is_near.true w.is_near-near_a.ensures w.near_a-is
      | else-is_near w ↦ and_first _ _ _ _ c.is_near.ensures w.if-is_near.false w.near_a-is
    ] in
    rw (← near_a, c.if-near_a.true)

pub returns-else-near_a : goal.returns-else-near_a
unfolding collapses
returns-else-near_a c =
    let near_a : c.if-is_near.near_a ≡ is_near c.args.a c.args.d c.args.h && is_near c.args.a c.args.c c.args.h =
    elim c.if-is_near.branch [
      | then-is_near w ↦ and_both _ _ _ _ _ c.is_near.ensures w.if-is_near.true w.is_near-near_a.ensures w.near_a-is
      | else-is_near w ↦ and_first _ _ _ _ c.is_near.ensures w.if-is_near.false w.near_a-is
    ] in
    let near_b : c.if-is_near-2.near_b ≡ is_near c.args.b c.args.d c.args.h && is_near c.args.b c.args.c c.args.h =
    elim c.if-is_near-2.branch [
      | then-is_near-2 w ↦ and_both _ _ _ _ _ c.is_near-2.ensures w.if-is_near-2.true w.is_near-near_b.ensures w.near_b-is
      | else-is_near-2 w ↦ and_first _ _ _ _ c.is_near-2.ensures w.if-is_near-2.false w.near_b-is
    ] in
    rw (← near_a, ← near_b, c.if-near_a.false)
