-- The rows before the counter are marked. Assumes nothing.
use mathlib.Core.Path.{◌≡◌}
use Rattle.laws.specs.Ranges.{fold}
use Rattle.marks.specs.Inner.Loops.{mark_row}
use Rattle.marks.proofs.Field.mark_layer.Given as goal

abbrev pub invariant-loop-v : goal.invariant-loop-v
invariant-loop-v l = l.masks ≡ fold (mark_row l.self.sides l.self.samples.now l.self.threshold) l.v l.initial.masks
