-- `ply::get_face` meets its contract. Assumes nothing.
use Rattle.ply.proofs.Reading.{get_face}
use Rattle.ply.proofs.get_face.Goals as goal

pub returns : goal.returns
returns c = get_face _ _ _ _ _ _ _ c.get4.ensures.0 c.get4-2.ensures.0 c.get4-3.ensures.0
