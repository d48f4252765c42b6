-- The invariant of the loop of `pairs::scatter`: after j turns the list is `fold sent j` of what it was. Assumes nothing.
use Rattle.std.proofs.Common.{◌≡◌}
use Rattle.laws.specs.Ranges.{fold}
use Rattle.pairs.specs.Inner.Flags.{sent}
use Rattle.pairs.proofs.scatter.Given as goal

abbrev pub invariant-loop-j : goal.invariant-loop-j
invariant-loop-j l = l.s ≡ fold sent l.j l.initial.s
