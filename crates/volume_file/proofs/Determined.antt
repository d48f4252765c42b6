-- What each public function promises, as its source states it, determines the answer and every entry of what it is lent. Assumes nothing.
use Rattle.laws.specs.Promises.{OneAnswer, OneOutcome}
use Rattle.volume_file.proofs.Reading.{words_unique}
use Rattle.volume_file.proofs.Texts.{measured_at_unique}
use Rattle.volume_file.proofs.read_words.Reads as read-words
use Rattle.volume_file.proofs.volume_text.Reads as volume-text

pub read_words_determined : OneAnswer read-words.Post
read_words_determined κ a y z e f p q = words_unique _ _ _ _ p q

pub volume_text_determined : OneOutcome (λ κ e. e.1.1.1.0.now) volume-text.Post
volume_text_determined κ a y z e f p q = let u = measured_at_unique _ _ p q in (u.1, u.0)
