-- The rows before the counter are counted. Assumes nothing.
use mathlib.Core.Path.{◌≡◌}
use Rattle.laws.specs.Ranges.{sum}
use Rattle.marks.specs.Inner.Loops.{cross_row}
use Rattle.marks.proofs.Field.cross_layer.Given as goal

abbrev pub invariant-loop-v : goal.invariant-loop-v
invariant-loop-v l = l.total ≡ sum l.v (cross_row l.self.sides l.self.samples.now l.self.threshold)
