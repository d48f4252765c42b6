-- The invariant of the loop of `lines::dec_more`. Assumes nothing.
use Rattle.lines.proofs.ReadDecimal.{Sofar}
use Rattle.lines.proofs.dec_more.Given as goal

abbrev pub invariant-loop-i : goal.invariant-loop-i
invariant-loop-i l = Sofar l.s l.from l.n l.i
