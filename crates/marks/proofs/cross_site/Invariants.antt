-- The labels below the counter are counted. Assumes nothing.
use mathlib.Core.Path.{◌≡◌}
use Rattle.laws.specs.Bools.{bit}
use Rattle.laws.specs.Ranges.{sum}
use Rattle.marks.specs.Marks.{is_crossed}
use Rattle.marks.proofs.cross_site.Given as goal

abbrev pub invariant-loop-label : goal.invariant-loop-label
invariant-loop-label turn = turn.total ≡ sum turn.label (λ l. bit (is_crossed turn.n turn.samples turn.h turn.s l))
