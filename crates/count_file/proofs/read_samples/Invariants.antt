-- The invariant of the loop of `count_file::read_samples`: of the whole list, of which the first n places are walked. Assumes nothing.
use mathlib.Core.List.{◌++◌}
use lib.ListN.{replicate, drop}
use Rattle.count_file.specs.CountFile.{sample}
use Rattle.lines.specs.Inner.Stored.{Filled}
use Rattle.count_file.proofs.read_samples.Given as goal

abbrev pub invariant-loop-place : goal.invariant-loop-place
invariant-loop-place l = Filled (replicate l.n sample) l.s l.from l.fn.out (l.place-items ++ drop l.n l.fn.out) l.at l.place-index
