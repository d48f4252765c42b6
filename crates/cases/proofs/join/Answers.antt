-- `cases::join` meets its contract. Assumes nothing.
use mathlib.Core.Path.{refl}
use Rattle.cases.specs.Inner.Codes.{joined}
use Rattle.cases.proofs.join.Goals as goal

pub returns : goal.returns
unfolding joined
returns c = refl
