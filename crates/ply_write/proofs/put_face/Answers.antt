-- `ply_write::put_face` meets its contract. Assumes nothing.
use native.Mathlib.Omega.{arith}
use lib.ListN.{length-set}
use Rattle.laws.proofs.Written.{written-length}
use Rattle.little_endian.proofs.Bytes.{bytes_length}
use Rattle.ply_write.proofs.Writing.{put_face}
use Rattle.ply_write.proofs.put_face.Goals as goal

pub put4-y-requires : goal.put4-y-requires
put4-y-requires c = let p = c.put4-x.ensures in
    omega (arith, c.requires, p.next, written-length p, length-set c.args.out.now c.args.at 3, bytes_length 4 c.wider.result)

pub put4-requires : goal.put4-requires
put4-requires c = let p = c.put4-x.ensures in
    let q = c.put4-y.ensures in
    omega (arith, c.requires, p.next, written-length p, length-set c.args.out.now c.args.at 3, q.next, written-length q, bytes_length 4 c.wider.result, bytes_length 4 c.wider-2.result)

pub returns : goal.returns
returns c = put_face _ _ _ _ _ _ _ _ _ _ _
    (rw c.wider.ensures at c.put4-x.ensures)
    (rw c.wider-2.ensures at c.put4-y.ensures)
    (rw c.wider-3.ensures at c.put4.ensures)
