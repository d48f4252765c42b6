-- The invariant of the loop of `pairs::run`: the records before i have the pair of the first. Assumes nothing.
use Rattle.std.proofs.Common.{◌≡◌, ℕ, ◌<◌, get_or}
use Rattle.sort.specs.Records.{none, recs, pair_of}
use Rattle.pairs.proofs.run.Given as goal

abbrev pub invariant-loop-i : goal.invariant-loop-i
invariant-loop-i l = (j : ℕ) → j < l.i → pair_of (get_or (recs l.s) j none) ≡ pair_of (get_or (recs l.s) 0 none)
