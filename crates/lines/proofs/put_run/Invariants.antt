-- The invariant of the loop of `lines::put_run`. Assumes nothing.
use Rattle.lines.proofs.PutRuns.{Put}
use Rattle.lines.proofs.put_run.Given as goal

abbrev pub invariant-loop-v : goal.invariant-loop-v
invariant-loop-v l = Put l.keys l.vals l.initial.out l.at l.out l.next l.p l.v-index
