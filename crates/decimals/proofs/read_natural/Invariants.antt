-- The invariant of the loop of `decimals::read_natural`. Assumes nothing.
use Rattle.decimals.proofs.Reading.{Sofar}
use Rattle.decimals.proofs.read_natural.Given as goal

abbrev pub invariant-loop-b : goal.invariant-loop-b
invariant-loop-b l = Sofar l.fn.s l.rest l.n l.b-index
