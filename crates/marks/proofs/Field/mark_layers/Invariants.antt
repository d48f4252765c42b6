-- The layers before the counter are marked. Assumes nothing.
use mathlib.Core.Path.{◌≡◌}
use Rattle.laws.specs.Ranges.{fold}
use Rattle.marks.specs.Inner.Loops.{layer_turn}
use Rattle.marks.proofs.Field.mark_layers.Given as goal

abbrev pub invariant-loop-w : goal.invariant-loop-w
invariant-loop-w l = l.masks ≡ fold (layer_turn l.self.sides l.self.samples.now l.self.threshold) l.w l.initial.masks
