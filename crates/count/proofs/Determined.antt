-- What each public function promises, as its source states it, determines the answer and every entry of what it is lent. Assumes nothing.
use Rattle.laws.specs.Promises.{OneOutcome}
use Rattle.laws.proofs.Written.{written_unique}
use Rattle.count.proofs.Counts.{answered_unique}
use Rattle.count.proofs.print.Reads as print
use Rattle.count.proofs.count_text.Reads as count-text

pub print_determined : OneOutcome (λ κ e. e.0.now) print.Post
print_determined κ a y z e f p q = let u = written_unique p q in (u.1, u.0)

pub count_text_determined : OneOutcome (λ κ e. e.1.0.now) count-text.Post
count_text_determined κ a y z e f p q = let u = answered_unique _ _ _ _ _ _ p q in (u.1, u.0)
