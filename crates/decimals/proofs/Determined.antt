-- What each public function promises, as its source states it, determines the answer and every entry of what it is lent. Assumes nothing.
use Rattle.laws.specs.Promises.{OneAnswer, OneOutcome}
use Rattle.laws.proofs.Written.{written_unique}
use Rattle.decimals.proofs.Meaning.{natural_unique, signed_unique}
use Rattle.decimals.proofs.read_natural.Reads as read-natural
use Rattle.decimals.proofs.read_signed.Reads as read-signed
use Rattle.decimals.proofs.put_sign.Reads as put-sign
use Rattle.decimals.proofs.put_decimal.Reads as put-decimal

pub read_natural_determined : OneAnswer read-natural.Post
read_natural_determined κ a y z e f p q = natural_unique p q

pub read_signed_determined : OneAnswer read-signed.Post
read_signed_determined κ a y z e f p q = signed_unique p q

pub put_sign_determined : OneOutcome (λ κ e. e.0.now) put-sign.Post
put_sign_determined κ a y z e f p q = let u = written_unique p q in (u.1, u.0)

pub put_decimal_determined : OneOutcome (λ κ e. e.0.now) put-decimal.Post
put_decimal_determined κ a y z e f p q = let u = written_unique p q in (u.1, u.0)
