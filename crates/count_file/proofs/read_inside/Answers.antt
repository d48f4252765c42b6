-- `count_file::read_inside` meets its contract: a run of one line. Assumes nothing.
use mathlib.Core.Path.{refl}
use Rattle.lines.specs.Lines.{line_of, ok_of}
use Rattle.lines.proofs.Parts.{one-there, one_absent}
use Rattle.count_file.specs.Inner.Heads.{there, left_out}
use Rattle.count_file.proofs.read_inside.Goals as goal

pub returns-in-Some : goal.returns-in-Some
unfolding line_of ok_of
returns-in-Some c = there (one-there _ _ _ c.requires _ _ c.in-Some.ensures)

pub returns-in-None : goal.returns-in-None
unfolding line_of ok_of
returns-in-None c = left_out (one_absent _ _ _ c.requires c.in-None.ensures) refl
