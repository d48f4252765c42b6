-- What each public function promises, as its source states it, determines the answer and every entry of what it is lent. Assumes nothing.
use Rattle.laws.specs.Promises.{OneAnswer, OneOutcome}
use Rattle.laws.proofs.Written.{written_unique}
use Rattle.count_file.proofs.Files.{parsed_unique}
use Rattle.count_file.proofs.read_file.Reads as read_file
use Rattle.count_file.proofs.print_answer.Reads as print-answer

pub read_file_determined : OneAnswer read_file.Post
read_file_determined κ a y z e f p q = parsed_unique _ y z p q

pub print_answer_determined : OneOutcome (λ κ e. e.0.now) print-answer.Post
print_answer_determined κ a y z e f p q = let u = written_unique p q in (u.1, u.0)
