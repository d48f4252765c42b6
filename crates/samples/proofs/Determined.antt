-- What each public function promises, as its source states it, determines the answer and every entry of what it is lent. Assumes nothing.
use mathlib.Core.Path.{sym, ◌∙◌}
use Rattle.laws.specs.Promises.{OneAnswer}
use Rattle.samples.proofs.is_inside.Reads as is-inside
use Rattle.samples.proofs.is_finite.Reads as is_finite
use Rattle.samples.proofs.finite_sample.Reads as finite-sample
use Rattle.samples.proofs.mark_fraction.Reads as mark-fraction
use Rattle.samples.proofs.point_fraction.Reads as point-fraction
use Rattle.samples.proofs.crossing_alpha.Reads as crossing-alpha

pub is_inside_determined : OneAnswer is-inside.Post
is_inside_determined κ a y z e f p q = p ∙ sym q

pub is_finite_determined : OneAnswer is_finite.Post
is_finite_determined κ a y z e f p q = p ∙ sym q

pub finite_sample_determined : OneAnswer finite-sample.Post
finite_sample_determined κ a y z e f p q = p ∙ sym q

pub mark_fraction_determined : OneAnswer mark-fraction.Post
mark_fraction_determined κ a y z e f p q = p ∙ sym q

pub point_fraction_determined : OneAnswer point-fraction.Post
point_fraction_determined κ a y z e f p q = p ∙ sym q

pub crossing_alpha_determined : OneAnswer crossing-alpha.Post
crossing_alpha_determined κ a y z e f p q = p ∙ sym q
