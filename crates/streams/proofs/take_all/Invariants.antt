-- What was read fits the space, and each turn but the last fills more of it.
use Rattle.std.proofs.Common.{length, ◌-◌, ◌≤◌}
use Rattle.streams.proofs.take_all.Given as goal

abbrev pub invariant-loop-at : goal.invariant-loop-at
invariant-loop-at l = l.at ≤ length l.space

abbrev pub decreases-loop-at : goal.decreases-loop-at
decreases-loop-at l = length l.initial.space - l.at
