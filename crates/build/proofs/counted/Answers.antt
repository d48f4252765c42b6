-- `build::counted` meets its contract. Assumes nothing.
use Rattle.build.specs.Inner.Grants.{made_answer}
use mathlib.Core.Path.{refl}
use Rattle.build.proofs.counted.Goals as goal

pub returns : goal.returns
unfolding made_answer
returns c = refl
