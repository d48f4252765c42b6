-- `file_build::point_of` meets its contract. Assumes nothing.
use Rattle.file_build.specs.Asked.{point_of}
use Rattle.file_build.proofs.point_of.Goals as goal

pub returns : goal.returns
unfolding point_of
returns c = cc
