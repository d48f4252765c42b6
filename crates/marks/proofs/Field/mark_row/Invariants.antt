-- The sites before the counter are marked. Assumes nothing.
use mathlib.Core.Path.{◌≡◌}
use Prim.Native.Nat.{◌+◌, ◌*◌}
use Rattle.laws.specs.Ranges.{fold}
use Rattle.marks.specs.Inner.Loops.{mark_site}
use Rattle.marks.proofs.Field.mark_row.Given as goal

abbrev pub invariant-loop-u : goal.invariant-loop-u
invariant-loop-u l = l.masks ≡ fold (λ i. mark_site l.self.sides l.self.samples.now l.self.threshold (l.v * l.self.sides.nu + i)) l.u l.initial.masks
