-- What each public function promises, as its source states it, determines the answer and every entry of what it is lent. Assumes nothing.
use mathlib.Core.Path.{◌≡◌, refl, sym, ap, ◌∙◌}
use native.Mathlib.Omega.{arith}
use lib.IntN.{ℤ}
use Rattle.std.specs.Prelude.{Result, Ok, Err}
use Prim.Native.Nat.{◌<◌}
use Rattle.laws.specs.Promises.{OneAnswer}
use Rattle.volume.specs.Volume.{Volume, refused, number_of, told}
use Rattle.volume.specs.declared.Refusal.{Refusal}
use Rattle.volume.specs.declared.Refusal.TheVariants.{Lists, Scale, Corner}
use Rattle.volume.proofs.Refusal.number.Reads as number
use Rattle.volume.proofs.volume_of.Reads as volume-of

number_same : (f g : Refusal) → number_of f ≡ number_of g → f ≡ g
number_same Lists Lists e = refl
number_same Lists Scale e = absurd (omega arith)
number_same Lists Corner e = absurd (omega arith)
number_same Scale Lists e = absurd (omega arith)
number_same Scale Scale e = refl
number_same Scale Corner e = absurd (omega arith)
number_same Corner Lists e = absurd (omega arith)
number_same Corner Scale e = absurd (omega arith)
number_same Corner Corner e = refl

no_nought : (f : Refusal) → 0 < number_of f
no_nought Lists = omega arith
no_nought Scale = omega arith
no_nought Corner = omega arith

-- what is told of a result is enough to know it
pub told_same : (r q : Result ℤ Refusal) → told r ≡ told q → r ≡ q
unfolding told refused
told_same (Ok y) (Ok z) e = ap (λ (v : Volume). Ok v.six) e
told_same (Ok y) (Err g) e = absurd (omega (arith, no_nought g, ap (λ (v : Volume). v.status) e))
told_same (Err f) (Ok z) e = absurd (omega (arith, no_nought f, ap (λ (v : Volume). v.status) e))
told_same (Err f) (Err g) e = ap Err (number_same f g (ap (λ (v : Volume). v.status) e))

pub volume_of_determined : OneAnswer volume-of.Post
volume_of_determined κ a y z e f p q = told_same y z (p ∙ sym q)

pub number_determined : OneAnswer number.Post
number_determined κ a y z e f p q = p ∙ sym q
