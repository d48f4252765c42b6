-- `site_vertices::Source::draw_single` meets its contract. Assumes nothing.
use mathlib.Core.Path.{◌≡◌}
use Prim.Native.Nat.{ℕ, ◌*◌, ◌%◌, ◌^◌, ◌<◌}
use lib.Pow.{pow-lt}
use Rattle.lattice.proofs.Sites.{sites-most}
use Rattle.site_vertices.proofs.Appending.{single-none, single-some, single_long}
use native.Mathlib.Omega.{arith}
use Rattle.site_vertices.proofs.Source.draw_single.Goals as goal

bit : (e : ℕ) → e < 14 → 1 * 2 ^ e % 65536 ≡ 2 ^ e
bit e h = omega (arith, pow-lt {i = e} {j = 14} h)

pub returns-then-sum-eq0 : goal.returns-then-sum-eq0
returns-then-sum-eq0 c = let a = c.args in
    let w = a.self.now in
    let d = c.draw_cluster-sum in
    single-none w.frame w.sides w.samples.now a.s a.e a.round a.next _ a.table.now _ a.positions.now a.book.now d.result c.requires.drawable.1 (bit a.e c.requires.drawable.1) d.ensures c.if-sum-eq0.true

pub put_vertex-requires : goal.put_vertex-requires
put_vertex-requires c = let a = c.args in
    let w = a.self.now in
    let d = c.draw_cluster-sum in
    let l = single_long w.frame w.sides w.samples.now a.s a.e a.round a.next _ a.table.now _ a.positions.now a.book.now d.result c.requires.drawable.1 (bit a.e c.requires.drawable.1) d.ensures c.if-sum-eq0.false in
    (record { positions = omega (arith, c.requires.space.positions, l); book = omega (arith, c.requires.space.book, l); few = omega (arith, c.requires.space.few, l) }, omega (arith, c.requires.drawable.0.low, sites-most w.sides w.sampled.fit))

pub overflow_add-result : goal.overflow_add-result
overflow_add-result c = omega (arith, c.requires.space.few)

pub returns : goal.returns
returns c = let a = c.args in
    let w = a.self.now in
    let d = c.draw_cluster-sum in
    let put = c.put_vertex.ensures in
    single-some w.frame w.sides w.samples.now a.s a.e a.round a.next _ a.table.now _ a.positions.now a.book.now d.result c.requires.drawable.1 (bit a.e c.requires.drawable.1) d.ensures c.mean-p.result _ _ c.if-sum-eq0.false c.mean-p.ensures put.positions put.book
