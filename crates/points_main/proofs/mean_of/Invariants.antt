-- As many points are counted as turns were made.
use Rattle.std.proofs.Common.{◌≡◌}
use Rattle.points_main.proofs.mean_of.Given as goal

abbrev pub invariant-loop : goal.invariant-loop
invariant-loop l = l.s.count ≡ l.counter
