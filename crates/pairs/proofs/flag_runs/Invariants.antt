-- The invariant and the measure of each loop of `pairs::flag_runs`. Assumes nothing.
use mathlib.Core.Path.{◌≡◌}
use Prim.Native.Nat.{◌-◌, ◌/◌, ◌≤◌}
use lib.ListN.{length}
use Rattle.sort.specs.Records.{recs}
use Rattle.pairs.proofs.Runs.{Walked}
use Rattle.pairs.proofs.flag_runs.Given as goal

abbrev pub invariant-loop-i : goal.invariant-loop-i
invariant-loop-i l = (l.all ≡ length l.initial.s / 3) × (l.i ≤ l.all) × (length l.s ≡ length l.initial.s) × Walked (recs l.initial.s) (recs l.s) l.i

abbrev pub decreases-loop-i : goal.decreases-loop-i
decreases-loop-i l = l.all - l.i
