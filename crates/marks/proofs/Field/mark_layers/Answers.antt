-- `marks::Field::mark_layers` meets its contract. Assumes nothing.
use native.Mathlib.Omega.{arith}
use mathlib.Core.Path.{sym, ap, ◌∙◌}
use mathlib.Core.List.{List, ◌++◌}
use Prim.Native.Nat.{ℕ}
use lib.ListN.{take}
use Rattle.laws.proofs.Tails.{tail_is, tail_back}
use Rattle.laws.proofs.Ranges.{fold-none, fold-turn, fold_done}
use Rattle.marks.specs.Inner.Loops.{layer_turn, mark_layers}
use Rattle.marks.proofs.Layers.{below}
use Rattle.marks.proofs.Rooms.{layer_left}
use Rattle.marks.proofs.Field.mark_layers.Goals as goal

pub loop-w-init : goal.loop-w-init
loop-w-init c = sym (fold-none _ _)

pub mark_layer-requires : goal.mark_layer-requires
mark_layer-requires c = let at = c.loop-w in
    rw (tail_is, c.layer_start-a.ensures.number, c.from_layer.ensures.sides) (layer_left c.args.self.now.sides at.w at.masks (omega (arith, c.requires, at.auto.masks)) c.loop-w-test.true)

pub loop-w-preserved : goal.loop-w-preserved
unfolding layer_turn
loop-w-preserved c = let at = c.loop-w in
    let part = c.from_layer.ensures in
    let r = c.mark_layer.new.masks in
    fold-turn _ at.w _ at.masks _ at.invariant
    (tail_back c.layer_start-a.result at.masks r
    ∙ rw c.layer_start-a.ensures.number
    (ap (λ (l : List ℕ). take (below c.args.self.now.sides at.w) at.masks ++ l) (rw (tail_is, c.layer_start-a.ensures.number, part.sides, part.samples, part.threshold) at c.mark_layer.ensures)))

pub returns : goal.returns
unfolding mark_layers
returns c = let at = c.loop-w in fold_done _ at.w _ _ at.masks at.invariant at.auto.w-end c.loop-w-test.false
