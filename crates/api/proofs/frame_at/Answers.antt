-- The frame is that of the six numbers.
use Rattle.api.specs.Calls.{frame_at}
use Rattle.api.proofs.frame_at.Goals as goal

pub returns : goal.returns
unfolding frame_at
returns c = c.frame_of.ensures
