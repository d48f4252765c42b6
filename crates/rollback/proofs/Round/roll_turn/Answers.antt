-- `rollback::Round::roll_turn` meets its contract. Assumes nothing.
use Rattle.rollback.proofs.Vertex.{due_yes, due_few, due_other, turned_yes, turned_no}
use Rattle.rollback.proofs.Round.roll_turn.Goals as goal

pub roll_vertex-requires : goal.roll_vertex-requires
roll_vertex-requires c = let a = c.args in
    record { placed = c.requires.placed; space = c.requires.room (due_yes a.book.now a.self.now.flags.now a.i c.if-book-i-gt1.true c.if-self-s-eq1.true) }

pub returns-then-self-s-eq1 : goal.returns-then-self-s-eq1
returns-then-self-s-eq1 c = let a = c.args in
    let w = a.self.now in
    turned_yes w.source.frame w.source.sides w.source.samples.now w.masks.now w.flags.now a.i a.next w.number a.table.now a.positions.now a.book.now (due_yes a.book.now w.flags.now a.i c.if-book-i-gt1.true c.if-self-s-eq1.true) c.roll_vertex.ensures

pub returns-else-self-s-eq1 : goal.returns-else-self-s-eq1
returns-else-self-s-eq1 c = let a = c.args in
    let w = a.self.now in
    turned_no w.source.frame w.source.sides w.source.samples.now w.masks.now w.flags.now a.i a.next w.number a.table.now a.positions.now a.book.now (due_other a.book.now w.flags.now a.i c.if-self-s-eq1.false)

pub returns-else-book-i-gt1 : goal.returns-else-book-i-gt1
returns-else-book-i-gt1 c = let a = c.args in
    let w = a.self.now in
    turned_no w.source.frame w.source.sides w.source.samples.now w.masks.now w.flags.now a.i a.next w.number a.table.now a.positions.now a.book.now (due_few a.book.now w.flags.now a.i c.if-book-i-gt1.false)
