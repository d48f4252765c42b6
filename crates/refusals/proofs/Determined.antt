-- What each public function promises, as its source states it, determines the answer and every entry of what it is lent. Assumes nothing.
use mathlib.Core.Path.{sym, ◌∙◌}
use Rattle.laws.specs.Promises.{OneAnswer}
use Rattle.refusals.proofs.Status.{reply_one}
use Rattle.refusals.proofs.Refusal.number.Reads as number
use Rattle.refusals.proofs.request.Reads as request

pub number_determined : OneAnswer number.Post
number_determined κ a y z e f p q = p ∙ sym q

pub request_determined : OneAnswer request.Post
request_determined κ a y z e f p q = reply_one y z (p ∙ sym q)
