-- `count_file::print_answer` meets its contract. Assumes nothing.
use native.Mathlib.Omega.{arith}
use Rattle.laws.proofs.Written.{written-more, written-length}
use Rattle.lines.specs.Lines.{lines}
use Rattle.count_file.specs.Answer.{answer_text}
use Rattle.lines.proofs.Printing.{refusal-length}
use Rattle.count_file.proofs.print_answer.Goals as goal

pub put_counts-requires : goal.put_counts-requires
put_counts-requires c = let p = c.put_status-next.ensures in
    omega (arith, c.requires, p.next, written-length p, refusal-length 0)

pub returns : goal.returns
unfolding answer_text lines
returns c = written-more c.put_status-next.ensures c.put_counts.ensures
