-- The invariant of the loop of `pairs::put_flags`: the first i records have the flag. Assumes nothing.
use Rattle.std.proofs.Common.{◌≡◌, ◌++◌, map, take, drop}
use Rattle.sort.specs.Records.{recs}
use Rattle.pairs.specs.Inner.Runs.{flagged}
use Rattle.pairs.proofs.put_flags.Given as goal

abbrev pub invariant-loop-i : goal.invariant-loop-i
invariant-loop-i l = recs l.s ≡ map (flagged l.f) (take l.i (recs l.initial.s)) ++ drop l.i (recs l.initial.s)
