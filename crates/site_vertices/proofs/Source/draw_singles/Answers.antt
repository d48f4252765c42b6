-- `site_vertices::Source::draw_singles` meets its contract. Assumes nothing.
use native.Mathlib.Omega.{arith}
use Rattle.site_vertices.proofs.Drawing.{lowest}
use Rattle.site_vertices.proofs.Appending.{appending_start, appending_space, appending_turn, appending_end}
use Rattle.site_vertices.proofs.Source.draw_singles.Goals as goal

pub loop-left-init : goal.loop-left-init
loop-left-init c = let a = c.args in let w = a.self.now in appending_start w.frame w.sides w.samples.now a.round a.s a.mask a.next a.table.now a.positions.now a.book.now c.requires.space

pub overflow_cast-e : goal.overflow_cast-e
overflow_cast-e c = omega (arith, (lowest c.loop-left.left (omega arith) c.loop-left.invariant.visits.short).edge)

pub overflow_cast-left : goal.overflow_cast-left
overflow_cast-left c = omega (arith, (lowest c.loop-left.left (omega arith) c.loop-left.invariant.visits.short).edge)

pub overflow_shl-left : goal.overflow_shl-left
overflow_shl-left c = omega (arith, (lowest c.loop-left.left (omega arith) c.loop-left.invariant.visits.short).edge)

pub draw_single-at-requires : goal.draw_single-at-requires
draw_single-at-requires c = let at = c.loop-left in
    let a = c.args in
    let w = a.self.now in
    record { drawable = (record { low = c.requires.drawable.low; table = omega (arith, c.requires.drawable.table, at.invariant.long) }, (lowest c.loop-left.left (omega arith) c.loop-left.invariant.visits.short).edge); space = appending_space w.frame w.sides w.samples.now a.round a.s a.mask a.next a.table.now a.positions.now a.book.now at.table at.positions at.book at.at at.left at.invariant (omega arith) }

pub loop-left-smaller : goal.loop-left-smaller
loop-left-smaller c = let l = lowest c.loop-left.left (omega arith) c.loop-left.invariant.visits.short in rw l.bit l.less

pub loop-left-preserved : goal.loop-left-preserved
loop-left-preserved c = let at = c.loop-left in
    let a = c.args in
    let w = a.self.now in
    let call = c.draw_single-at in
    rw (lowest at.left (omega arith) at.invariant.visits.short).bit
    (appending_turn w.frame w.sides w.samples.now a.round a.s a.mask a.next a.table.now a.positions.now a.book.now at.table at.positions at.book at.at at.left at.invariant (omega arith) _ _ _ call.result call.ensures call.auto.table)

pub returns : goal.returns
returns c = let a = c.args in
    let w = a.self.now in
    let at = c.loop-left in
    appending_end w.frame w.sides w.samples.now a.round a.s a.mask a.next a.table.now a.positions.now a.book.now at.table at.positions at.book at.at at.left at.invariant c.loop-left-test.false
