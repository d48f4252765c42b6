-- The layers before the counter are counted. Assumes nothing.
use mathlib.Core.Path.{◌≡◌}
use Prim.Native.Nat.{◌*◌}
use lib.ListN.{drop}
use Rattle.laws.specs.Ranges.{sum}
use Rattle.marks.specs.Inner.Loops.{from_layer, cross_layer}
use Rattle.marks.proofs.Field.crossed.Given as goal

abbrev pub invariant-loop-w : goal.invariant-loop-w
invariant-loop-w l = l.total ≡ sum l.w (λ i. cross_layer (from_layer l.self.sides i) (drop (i * (l.self.sides.nu * l.self.sides.nv)) l.self.samples.now) l.self.threshold)
