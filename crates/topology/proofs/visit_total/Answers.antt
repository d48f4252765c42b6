-- `topology::visit_total` meets its contract. Assumes nothing.
use Rattle.std.proofs.Common.{◌≡◌, ℕ, sym, ◌∙◌, arith}
use lib.Bits.{mask_lt}
use lib.Count.{ones}
use Rattle.laws.proofs.Digits.{ones_own, ones_low}
use Rattle.topology.specs.Walk.{fourteen, visits}
use Rattle.topology.proofs.Visits.{visits_ones, visits-most}
use Rattle.topology.proofs.visit_total.Goals as goal

counted : (m : ℕ) → ones (fourteen m) ≡ visits m
counted m = sym (ones_own 14 (fourteen m) (mask_lt m 14)) ∙ ones_low 14 m ∙ sym (visits_ones m)

pub overflow_cast-result : goal.overflow_cast-result
overflow_cast-result c = omega (arith, counted c.args.mask, visits-most c.args.mask)

pub returns : goal.returns
returns c = counted c.args.mask
