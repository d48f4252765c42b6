-- `ply_write::put_head` meets its contract. Assumes nothing.
use native.Mathlib.Omega.{arith}
use Rattle.laws.proofs.Written.{written-more, written-length}
use Rattle.lines.proofs.Lines.{dec_line-length}
use Rattle.ply_write.specs.Form.{opening, middle, head_text}
use Rattle.ply_write.proofs.Writing.{head_length}
use Rattle.ply_write.proofs.put_head.Goals as goal

pub put_line-a-requires : goal.put_line-a-requires
put_line-a-requires c = omega (arith, c.requires, head_length c.args.v c.args.f, dec_line-length opening c.args.v)

pub put_line-b-requires : goal.put_line-b-requires
put_line-b-requires c = let p = c.put_line-a.ensures in
    omega (arith, c.requires, head_length c.args.v c.args.f, dec_line-length opening c.args.v, dec_line-length middle c.args.f, p.next, written-length p)

pub put_text-c-requires : goal.put_text-c-requires
put_text-c-requires c = let p = c.put_line-a.ensures in
    let q = c.put_line-b.ensures in
    omega (arith, c.requires, head_length c.args.v c.args.f, dec_line-length opening c.args.v, dec_line-length middle c.args.f, p.next, written-length p, q.next, written-length q)

pub put_text-requires : goal.put_text-requires
put_text-requires c = let p = c.put_line-a.ensures in
    let q = c.put_line-b.ensures in
    let t = c.put_text-c.ensures in
    omega (arith, c.requires, head_length c.args.v c.args.f, dec_line-length opening c.args.v, dec_line-length middle c.args.f, p.next, written-length p, q.next, written-length q, t.next, written-length t)

pub returns : goal.returns
unfolding head_text
returns c = written-more c.put_line-a.ensures
    (written-more c.put_line-b.ensures
    (written-more c.put_text-c.ensures c.put_text.ensures))
