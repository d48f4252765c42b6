-- `pairs::send` meets its contract. Assumes nothing.
use mathlib.Core.Path.{refl}
use Rattle.pairs.specs.Inner.Flags.{sent}
use Rattle.pairs.proofs.send.Goals as goal

pub returns : goal.returns
unfolding sent
returns c = refl
