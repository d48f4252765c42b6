-- `lines::put_line` meets its contract. Assumes nothing.
use Rattle.laws.proofs.Written.{written-more}
use Rattle.lines.proofs.put_line.Goals as goal

pub returns : goal.returns
returns c = written-more c.put_text-a.ensures (written-more c.put_dec-b.ensures c.put_text.ensures)
