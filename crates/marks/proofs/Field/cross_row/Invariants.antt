-- The sites before the counter are counted. Assumes nothing.
use mathlib.Core.Path.{◌≡◌}
use Prim.Native.Nat.{◌+◌, ◌*◌}
use Rattle.laws.specs.Ranges.{sum}
use Rattle.marks.specs.Inner.Loops.{cross_site}
use Rattle.marks.proofs.Field.cross_row.Given as goal

abbrev pub invariant-loop-u : goal.invariant-loop-u
invariant-loop-u l = l.total ≡ sum l.u (λ i. cross_site l.self.sides l.self.samples.now l.self.threshold (l.v * l.self.sides.nu + i))
