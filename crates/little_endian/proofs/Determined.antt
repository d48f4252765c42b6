-- What each public function promises, as its source states it, determines the answer and every entry of what it is lent. Assumes nothing.
use mathlib.Core.Path.{sym, ◌∙◌}
use Rattle.laws.specs.Promises.{OneAnswer, OneOutcome}
use Rattle.laws.proofs.Written.{written_unique}
use Rattle.little_endian.proofs.wider.Reads as wider
use Rattle.little_endian.proofs.put4.Reads as put4
use Rattle.little_endian.proofs.put8.Reads as put8
use Rattle.little_endian.proofs.get4.Reads as get4
use Rattle.little_endian.proofs.get8.Reads as get8

pub wider_determined : OneAnswer wider.Post
wider_determined κ a y z e f p q = p ∙ sym q

pub put4_determined : OneOutcome (λ κ e. e.0.now) put4.Post
put4_determined κ a y z e f p q = let u = written_unique p q in (u.1, u.0)

pub put8_determined : OneOutcome (λ κ e. e.0.now) put8.Post
put8_determined κ a y z e f p q = let u = written_unique p q in (u.1, u.0)

pub get4_determined : OneAnswer get4.Post
get4_determined κ a y z e f p q = p.0 ∙ sym q.0

pub get8_determined : OneAnswer get8.Post
get8_determined κ a y z e f p q = p ∙ sym q
