-- The invariant of the loop of `lines::read_run`. Assumes nothing.
use Rattle.lines.specs.Inner.Forms.{form_of}
use Rattle.lines.specs.Inner.Stored.{Filled}
use Rattle.lines.proofs.Rows.{Row}
use Rattle.lines.proofs.read_run.Given as goal

abbrev pub invariant-loop-k : goal.invariant-loop-k
invariant-loop-k l = Filled (form_of l.decs l.n l.keys) l.s l.from l.initial.out l.out l.at l.k × Row l.keys l.p l.k
