-- The ten counts, in their order.
use Rattle.std.proofs.Common.{refl}
use Rattle.build.specs.Answer.{counts_of}
use Rattle.api.proofs.counts_of.Goals as goal

pub returns : goal.returns
unfolding counts_of
returns c = refl
