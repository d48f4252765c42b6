-- `build::refused` meets its contract. Assumes nothing.
use Rattle.build.specs.Answer.{refused_answer}
use mathlib.Core.Path.{refl}
use Rattle.build.proofs.refused.Goals as goal

pub returns : goal.returns
unfolding refused_answer
returns c = refl
