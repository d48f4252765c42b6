-- `ply_write::size` meets its contract. Assumes nothing.
use native.Mathlib.Omega.{arith}
use Rattle.ply_write.proofs.Writing.{head_length}
use Rattle.ply_write.proofs.size.Goals as goal

pub returns : goal.returns
returns c = let a = c.args in omega (arith, head_length a.v a.f)
