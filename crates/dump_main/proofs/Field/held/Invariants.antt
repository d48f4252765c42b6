-- At most one is counted for each edge.
use Rattle.std.proofs.Common.{◌≤◌}
use Rattle.dump_main.proofs.Field.held.Given as goal

abbrev pub invariant-loop-e : goal.invariant-loop-e
invariant-loop-e l = l.p ≤ l.e
