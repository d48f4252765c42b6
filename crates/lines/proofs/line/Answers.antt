-- `lines::line` meets its contract: a kind, a call. Assumes nothing.
use borrow.Author.Tests.{lt-leb, le-leb}
use Rattle.lines.specs.Lines.{line_of, ok_of}
use Rattle.lines.specs.Inner.Forms.{field_of}
use Rattle.lines.proofs.line.Goals as goal

pub returns-then-k-decs : goal.returns-then-k-decs
unfolding field_of line_of ok_of
returns-then-k-decs c = rw (lt-leb c.args.decs c.args.k c.if-k-decs.true) c.dec_line.ensures

pub returns : goal.returns
unfolding field_of line_of ok_of
returns c = rw (le-leb c.args.decs c.args.k c.if-k-decs.false) c.hex_line.ensures
