-- The labels below the counter are marked. Assumes nothing.
use mathlib.Core.Path.{◌≡◌}
use Rattle.laws.specs.Ranges.{fold}
use Rattle.marks.specs.Inner.Loops.{mark_label}
use Rattle.marks.proofs.Site.mark_site.Given as goal

abbrev pub invariant-loop-label : goal.invariant-loop-label
invariant-loop-label l = l.masks ≡ fold (mark_label l.self.field.sides l.self.field.samples.now l.self.field.threshold l.self.number) l.label l.initial.masks
