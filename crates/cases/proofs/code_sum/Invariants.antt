-- The invariant of the loop of `cases::code_sum`. Assumes nothing.
use mathlib.Core.Path.{◌≡◌}
use Prim.Native.Nat.{ℕ, ◌*◌, ◌≤◌}
use lib.ListN.{get_or}
use Rattle.laws.specs.Ranges as ranges
use Rattle.cases.proofs.code_sum.Given as goal

abbrev pub invariant-loop-code : goal.invariant-loop-code
invariant-loop-code l = (l.sum ≡ ranges.sum l.code-index (λ (i : ℕ). get_or l.codes i 0)) × (l.sum ≤ 16 * l.code-index)
