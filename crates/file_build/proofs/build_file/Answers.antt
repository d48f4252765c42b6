-- `file_build::build_file` meets its contract. Assumes nothing.
use mathlib.Core.Path.{refl}
use Rattle.file_build.proofs.Building.{head-read, unread-built}
use Rattle.file_build.proofs.build_file.Goals as goal

pub returns : goal.returns
returns c =
    head-read _ _ _ _ c.in-Some.file c.in-Some.ensures c.floats_of-samples.ensures c.sides_of-n.ensures c.inside_of-threshold.ensures c.head_frame-frame.ensures
    c.build-answer.ensures

pub returns-in_default : goal.returns-in_default
returns-in_default c = unread-built _ _ _ _ c.in_default.ensures c.refused.ensures refl
