-- `ply_write::begin` meets its contract. Assumes nothing.
use Rattle.ply_write.proofs.Writing.{begin-done}
use Rattle.ply_write.proofs.begin.Goals as goal

pub returns : goal.returns
returns c = begin-done _ _ _ _ _ _ (c.if-not-fit.ensures) c.size.ensures c.if-out-size.false c.put_head.ensures
