-- `volume_file::put_lines` meets its contract. Assumes nothing.
use native.Mathlib.Omega.{arith}
use Rattle.laws.proofs.Sizes.{rd}
use Rattle.laws.proofs.Written.{written-length}
use Rattle.lines.proofs.Printing.{refusal-length}
use Rattle.volume_file.specs.Text.{triangles_key, sixths_key}
use Rattle.volume_file.proofs.Printing.{line_fits, line-ends, six-room, volume_room, lines-put}
use Rattle.volume_file.proofs.put_lines.Goals as goal

pub put_line-b-requires : goal.put_line-b-requires
put_line-b-requires c = let p = c.put_status-a.ensures in
    line_fits _ triangles_key _ _ (omega (arith, c.requires.1, p.next, written-length p, refusal-length 0))

pub put_six-c-requires : goal.put_six-c-requires
put_six-c-requires c = let p = c.put_status-a.ensures in
    let q = c.put_line-b.ensures in
    omega (arith, c.requires.1, p.next, written-length p, line-ends _ _ _ triangles_key _ _ q, written-length q, refusal-length 0)

pub put_volume-e-requires : goal.put_volume-e-requires
put_volume-e-requires c = let p = c.put_status-a.ensures in
    let q = c.put_line-b.ensures in
    let r = c.put_six-c.ensures in
    (c.requires.0, omega (arith, c.requires.1, p.next, written-length p, line-ends _ _ _ triangles_key _ _ q, written-length q, r.next, written-length r, refusal-length 0, six-room (rd c.args.z)))

pub put_line-requires : goal.put_line-requires
put_line-requires c = let p = c.put_status-a.ensures in
    let q = c.put_line-b.ensures in
    let r = c.put_six-c.ensures in
    let t = c.put_volume-e.ensures in
    line_fits _ sixths_key _ _
    (omega (arith, c.requires.1, p.next, written-length p, line-ends _ _ _ triangles_key _ _ q, written-length q, r.next, written-length r, t.next, written-length t, refusal-length 0, six-room (rd c.args.z), volume_room c.args.d (rd c.args.z) c.requires.0))

pub returns : goal.returns
returns c = lines-put c.args.z c.ranges.z c.args.d c.args.triangles _ c.size_of-n.ensures c.put_status-a.ensures c.put_line-b.ensures c.put_six-c.ensures c.put_volume-e.ensures c.put_line.ensures
