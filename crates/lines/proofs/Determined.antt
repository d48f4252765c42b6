-- What each public function promises, as its source states it, determines the answer and every entry of what it is lent. Assumes nothing.
use mathlib.Core.Path.{sym, ◌∙◌}
use Rattle.laws.specs.Promises.{OneAnswer, OneOutcome}
use Rattle.laws.proofs.Written.{written_unique}
use Rattle.lines.specs.Lines.{Dec, Hex, line_of, ok_of}
use Rattle.lines.proofs.Lines.{line_unique}
use Rattle.lines.proofs.Runs.{run_unique}
use Rattle.lines.proofs.has.Reads as has
use Rattle.lines.proofs.dec_line.Reads as dec-line
use Rattle.lines.proofs.hex_line.Reads as hex-line
use Rattle.lines.proofs.read_run.Reads as read-run
use Rattle.lines.proofs.put_dec.Reads as put-dec
use Rattle.lines.proofs.put_text.Reads as put-text
use Rattle.lines.proofs.put_line.Reads as put-line
use Rattle.lines.proofs.put_run.Reads as put-run
use Rattle.lines.proofs.put_status.Reads as put-status

pub has_determined : OneAnswer has.Post
has_determined κ a y z e f p q = p ∙ sym q

pub dec_line_determined : OneAnswer dec-line.Post
unfolding line_of ok_of
dec_line_determined κ a y z e f p q = line_unique (Dec a.1.1.0.now) _ _ y z p q

pub hex_line_determined : OneAnswer hex-line.Post
unfolding line_of ok_of
hex_line_determined κ a y z e f p q = line_unique (Hex a.1.1.0.now) _ _ y z p q

pub read_run_determined : OneOutcome (λ κ e. e.1.1.1.1.1.0.now) read-run.Post
read_run_determined κ a y z e f p q = let u = run_unique _ _ _ _ _ _ _ y z p q in (u.1, u.0)

pub put_dec_determined : OneOutcome (λ κ e. e.0.now) put-dec.Post
put_dec_determined κ a y z e f p q = let u = written_unique p q in (u.1, u.0)

pub put_text_determined : OneOutcome (λ κ e. e.0.now) put-text.Post
put_text_determined κ a y z e f p q = let u = written_unique p q in (u.1, u.0)

pub put_line_determined : OneOutcome (λ κ e. e.0.now) put-line.Post
put_line_determined κ a y z e f p q = let u = written_unique p q in (u.1, u.0)

pub put_run_determined : OneOutcome (λ κ e. e.0.now) put-run.Post
put_run_determined κ a y z e f p q = let u = written_unique p q in (u.1, u.0)

pub put_status_determined : OneOutcome (λ κ e. e.0.now) put-status.Post
put_status_determined κ a y z e f p q = let u = written_unique p q in (u.1, u.0)
