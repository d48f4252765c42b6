-- `volume_file::put_volume` meets its contract. Assumes nothing.
use native.Mathlib.Omega.{arith}
use Rattle.laws.proofs.Sizes.{rd}
use Rattle.laws.proofs.Written.{written-length}
use Rattle.decimals.proofs.Printing.{sign-room, decimal_fits, decimal-ends}
use Rattle.volume_file.proofs.Printing.{volume_put}
use Rattle.volume_file.proofs.put_volume.Goals as goal

pub put_sign-b-requires : goal.put_sign-b-requires
put_sign-b-requires c = let p = c.put_text-a.ensures in omega (arith, c.requires.1, p.next, written-length p, sign-room (rd c.args.z))

pub put_decimal-c-requires : goal.put_decimal-c-requires
put_decimal-c-requires c = let p = c.put_text-a.ensures in
    let q = c.put_sign-b.ensures in
    decimal_fits _ _ _ _ (omega (arith, c.requires.0, c.requires.1, p.next, written-length p, q.next, written-length q, sign-room (rd c.args.z)))

pub put_text-requires : goal.put_text-requires
put_text-requires c = let p = c.put_text-a.ensures in
    let q = c.put_sign-b.ensures in
    let r = c.put_decimal-c.ensures in
    omega (arith, c.requires.0, c.requires.1, p.next, written-length p, q.next, written-length q, decimal-ends _ _ _ _ _ _ r, written-length r, sign-room (rd c.args.z))

pub returns : goal.returns
returns c = volume_put c.args.z c.ranges.z c.args.d _ c.put_text-a.ensures c.put_sign-b.ensures c.size_of-n.ensures c.put_decimal-c.ensures c.put_text.ensures
