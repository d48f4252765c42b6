-- `volume_file::put_six` meets its contract. Assumes nothing.
use native.Mathlib.Omega.{arith}
use Rattle.laws.proofs.Sizes.{rd}
use Rattle.laws.proofs.Written.{written-length}
use Rattle.lines.proofs.Decimals.{dec-room}
use Rattle.decimals.proofs.Printing.{sign-room}
use Rattle.volume_file.proofs.Printing.{six-put}
use Rattle.volume_file.proofs.put_six.Goals as goal

pub put_sign-b-requires : goal.put_sign-b-requires
put_sign-b-requires c = let p = c.put_text-a.ensures in omega (arith, c.requires, p.next, written-length p, sign-room (rd c.args.z))

pub put_dec-c-requires : goal.put_dec-c-requires
put_dec-c-requires c = let p = c.put_text-a.ensures in let q = c.put_sign-b.ensures in omega (arith, c.requires, p.next, written-length p, q.next, written-length q, sign-room (rd c.args.z), dec-room c.size_of-n.result)

pub put_text-requires : goal.put_text-requires
put_text-requires c = let p = c.put_text-a.ensures in let q = c.put_sign-b.ensures in let r = c.put_dec-c.ensures in omega (arith, c.requires, p.next, written-length p, q.next, written-length q, r.next, written-length r, sign-room (rd c.args.z), dec-room c.size_of-n.result)

pub returns : goal.returns
returns c = six-put c.args.z c.ranges.z _ c.put_text-a.ensures c.put_sign-b.ensures c.size_of-n.ensures c.put_dec-c.ensures c.put_text.ensures
