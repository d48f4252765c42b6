-- `count::counts_of` meets its contract. Assumes nothing.
use mathlib.Core.Path.{refl}
use Rattle.build.specs.Answer.{counts_of}
use Rattle.count.proofs.counts_of.Goals as goal

pub returns : goal.returns
unfolding counts_of
returns c = refl
