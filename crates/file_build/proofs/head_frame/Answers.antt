-- `file_build::head_frame` meets its contract. Assumes nothing.
use Rattle.file_build.specs.Asked.{head_frame}
use Rattle.file_build.proofs.head_frame.Goals as goal

pub returns : goal.returns
unfolding head_frame
returns c = cc
