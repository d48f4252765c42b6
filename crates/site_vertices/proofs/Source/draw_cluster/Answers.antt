-- `site_vertices::Source::draw_cluster` meets its contract. Assumes nothing.
use native.Mathlib.Omega.{arith}
use Rattle.site_vertices.proofs.Drawing.{lowest, drawing_start, drawing_turn, drawing_end}
use Rattle.site_vertices.proofs.Source.draw_cluster.Goals as goal

pub loop-rest-init : goal.loop-rest-init
loop-rest-init c = let a = c.args in let w = a.self.now in drawing_start w.frame w.sides w.samples.now a.s a.mask a.id a.table.now c.no_points-sum.result c.no_points-sum.ensures

pub overflow_cast-e : goal.overflow_cast-e
overflow_cast-e c = omega (arith, (lowest c.loop-rest.rest (omega arith) c.loop-rest.invariant.visits.short).edge)

pub overflow_cast-rest : goal.overflow_cast-rest
overflow_cast-rest c = omega (arith, (lowest c.loop-rest.rest (omega arith) c.loop-rest.invariant.visits.short).edge)

pub overflow_shl-rest : goal.overflow_shl-rest
overflow_shl-rest c = omega (arith, (lowest c.loop-rest.rest (omega arith) c.loop-rest.invariant.visits.short).edge)

pub draw_edge-sum-requires : goal.draw_edge-sum-requires
draw_edge-sum-requires c = let p = c.requires in
    let d = c.loop-rest.invariant in
    let l = lowest c.loop-rest.rest (omega arith) d.visits.short in
    (record { low = p.low; table = omega (arith, p.table, d.long) }, l.edge, omega (arith, d.few, l.less))

pub loop-rest-smaller : goal.loop-rest-smaller
loop-rest-smaller c = let l = lowest c.loop-rest.rest (omega arith) c.loop-rest.invariant.visits.short in rw l.bit l.less

pub loop-rest-preserved : goal.loop-rest-preserved
loop-rest-preserved c = let a = c.args in
    let w = a.self.now in
    let at = c.loop-rest in
    let call = c.draw_edge-sum in
    rw (lowest at.rest (omega arith) at.invariant.visits.short).bit
    (drawing_turn w.frame w.sides w.samples.now a.s a.mask a.id a.table.now at.table at.sum at.rest at.invariant (omega arith) _ call.result call.ensures call.auto.table)

pub returns : goal.returns
returns c = let a = c.args in
    let w = a.self.now in
    let at = c.loop-rest in
    drawing_end w.frame w.sides w.samples.now a.s a.mask a.id a.table.now at.table at.sum at.rest at.invariant c.loop-rest-test.false
