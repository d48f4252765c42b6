-- `lines::put_status` meets its contract. Assumes nothing.
use native.Mathlib.Omega.{arith}
use Rattle.lines.specs.Lines.{line_of}
use Rattle.lines.proofs.Printing.{refusal-length}
use Rattle.lines.proofs.put_status.Goals as goal

pub put_line-requires : goal.put_line-requires
unfolding line_of
put_line-requires c = omega (arith, c.requires, refusal-length c.args.n)

pub returns : goal.returns
unfolding line_of
returns c = c.put_line.ensures
