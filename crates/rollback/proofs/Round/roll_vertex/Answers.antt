-- `rollback::Round::roll_vertex` meets its contract. Assumes nothing.
use Rattle.rollback.proofs.Vertex.{vertex_space, vertex_replaced}
use Rattle.rollback.proofs.Round.roll_vertex.Goals as goal

pub draw_singles-after-requires : goal.draw_singles-after-requires
draw_singles-after-requires c = let a = c.args in
    let w = a.self.now in
    let p = c.requires.placed in
    let call = c.held_mask-held in
    record { drawable = record { low = p.site; table = p.table }; space = vertex_space w.source.frame w.source.sides w.source.samples.now w.masks.now a.table.now a.positions.now a.book.now a.i a.next w.number call.result call.ensures c.requires.space }

pub returns : goal.returns
returns c = let a = c.args in
    let w = a.self.now in
    let call = c.held_mask-held in
    vertex_replaced w.source.frame w.source.sides w.source.samples.now w.masks.now a.table.now a.positions.now a.book.now a.i a.next w.number call.result call.ensures c.draw_singles-after.ensures
