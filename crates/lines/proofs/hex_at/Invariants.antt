-- The invariant of the loop of `lines::hex_at`. Assumes nothing.
use Rattle.lines.proofs.ReadHex.{Sofar}
use Rattle.lines.proofs.hex_at.Given as goal

abbrev pub invariant-loop-b : goal.invariant-loop-b
invariant-loop-b l = Sofar l.s l.from l.n l.b-index
