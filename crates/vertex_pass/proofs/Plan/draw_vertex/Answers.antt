-- `vertex_pass::Plan::draw_vertex` meets its contract. Assumes nothing.
use Rattle.vertex_pass.proofs.Vertex.{vertex_none, vertex_whole, vertex_split, whole_space, split_space, met_one}
use Rattle.vertex_pass.specs.Inner.Passing.{flag_of}
use Rattle.lattice.proofs.Sites.{sites-most}
use mathlib.Core.Path.{sym, ◌∙◌}
use native.Mathlib.Omega.{arith}
use Rattle.vertex_pass.proofs.Plan.draw_vertex.Goals as goal

pub returns-then-held-eq0 : goal.returns-then-held-eq0
returns-then-held-eq0 c = let a = c.args in
    let w = a.self.now in
    let d = c.draw_cluster-sum in
    vertex_none w.source.frame w.source.sides w.source.samples.now a.s a.mask (flag_of w.flags.now) a.at a.table.now _ a.positions.now a.book.now d.result d.ensures.sum d.ensures.table c.if-held-eq0.true

pub draw_singles-next-requires : goal.draw_singles-next-requires
draw_singles-next-requires c = let a = c.args in
    let w = a.self.now in
    let d = c.draw_cluster-sum in
    record { drawable = record { low = c.requires.drawable.low; table = omega (arith, c.requires.drawable.table, d.auto.table) }; space = split_space w.source.frame w.source.sides w.source.samples.now a.s a.mask (flag_of w.flags.now) a.at a.table.now _ a.positions.now a.book.now d.result d.ensures.sum d.ensures.table c.if-held-eq0.false (sym c.is_split.ensures ∙ c.if-is_split.true) c.requires.ahead }

pub overflow_add-result : goal.overflow_add-result
overflow_add-result c = let a = c.args in
    let w = a.self.now in
    let d = c.draw_cluster-sum in
    omega (arith, (met_one w.source.frame w.source.sides w.source.samples.now a.s a.mask (flag_of w.flags.now) a.at a.table.now _ a.positions.now a.book.now d.result d.ensures.sum d.ensures.table c.if-held-eq0.false c.requires.ahead).1)

pub returns-then-is_split : goal.returns-then-is_split
returns-then-is_split c = let a = c.args in
    let w = a.self.now in
    let d = c.draw_cluster-sum in
    let z = c.draw_singles-next in
    vertex_split w.source.frame w.source.sides w.source.samples.now a.s a.mask (flag_of w.flags.now) a.at a.table.now _ a.positions.now a.book.now d.result d.ensures.sum d.ensures.table c.if-held-eq0.false (sym c.is_split.ensures ∙ c.if-is_split.true) z.result _ _ _ z.ensures

pub put_vertex-requires : goal.put_vertex-requires
put_vertex-requires c = let a = c.args in
    let w = a.self.now in
    let d = c.draw_cluster-sum in
    (whole_space w.source.frame w.source.sides w.source.samples.now a.s a.mask (flag_of w.flags.now) a.at a.table.now _ a.positions.now a.book.now d.result d.ensures.sum d.ensures.table c.if-held-eq0.false (sym c.is_split.ensures ∙ c.if-is_split.false) c.requires.ahead, omega (arith, c.requires.drawable.low, sites-most w.source.sides w.masked.sampled.fit))

pub overflow_add-result-2 : goal.overflow_add-result-2
overflow_add-result-2 c = omega (arith, c.requires.ahead.space.few)

pub returns : goal.returns
returns c = let a = c.args in
    let w = a.self.now in
    let d = c.draw_cluster-sum in
    let z = c.put_vertex in
    vertex_whole w.source.frame w.source.sides w.source.samples.now a.s a.mask (flag_of w.flags.now) a.at a.table.now _ a.positions.now a.book.now d.result d.ensures.sum d.ensures.table c.if-held-eq0.false (sym c.is_split.ensures ∙ c.if-is_split.false) c.mean-p.result _ _ c.mean-p.ensures z.ensures.positions z.ensures.book
