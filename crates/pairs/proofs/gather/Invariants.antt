-- The invariant of the loop of `pairs::gather`: after k turns the list is `fold pulled k` of what it was. Assumes nothing.
use Rattle.std.proofs.Common.{◌≡◌}
use Rattle.laws.specs.Ranges.{fold}
use Rattle.pairs.specs.Inner.Flags.{pulled}
use Rattle.pairs.proofs.gather.Given as goal

abbrev pub invariant-loop-k : goal.invariant-loop-k
invariant-loop-k l = l.s ≡ fold pulled l.k l.initial.s
