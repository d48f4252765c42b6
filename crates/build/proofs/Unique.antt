-- What the build promises determines its answer and every entry of the six lists. Assumes nothing.
use mathlib.Core.Path.{◌≡◌, sym, ◌∙◌}
use Rattle.build.specs.declared.Answer.{Answer}
use Rattle.build.specs.Answer.{Order, Lists, BuildOf}

-- ANY TWO CONFORMING ANSWERS ARE EQUAL
pub build_unique : {o : Order} {l l₁ l₂ : Lists} {y z : Answer} → BuildOf o l l₁ y → BuildOf o l l₂ z → (y ≡ z) × (l₁ ≡ l₂)
build_unique a b = (a.answer ∙ sym b.answer, a.after ∙ sym b.after)
