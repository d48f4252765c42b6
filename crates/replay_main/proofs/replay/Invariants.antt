-- What is left of the list falls with each turn.
use Rattle.std.proofs.Common.{◌≤◌, ◌-◌, length}
use Rattle.replay_main.proofs.replay.Given as goal

abbrev pub invariant-loop-at : goal.invariant-loop-at
invariant-loop-at g l = l.at ≤ length l.list

abbrev pub decreases-loop-at : goal.decreases-loop-at
decreases-loop-at g l = length l.list - l.at
