-- `vertex_pass::Plan::draw_site` meets its contract. Assumes nothing.
use Rattle.vertex_pass.proofs.Passing.{passing_start, passing_turn, passing_done, ahead_turn}
use Rattle.vertex_pass.specs.Inner.Passing.{candidate_of, flag_of, Passed, Ahead}
use Rattle.std.proofs.Common.{◌<◌, ◌≤◌, ℕ, sym, subst, arith}
use Rattle.std.proofs.lemmas.List.{get_or-take, length-take-le}
use lib.ListN.{get_or}
use Rattle.vertex_pass.proofs.Plan.draw_site.Goals as goal

pub loop-mask-init : goal.loop-mask-init
loop-mask-init c = let a = c.args in let w = a.self.now in passing_start w.source.frame w.source.sides w.source.samples.now (flag_of w.flags.now) (λ x. candidate_of w.source.sides w.source.samples.now a.s (get_or a.clusters.masks x 0)) a.at a.table.now a.positions.now a.book.now a.clusters.count

pub draw_vertex-now-requires-clause-ahead : goal.draw_vertex-now-requires-clause-ahead
draw_vertex-now-requires-clause-ahead c = let a = c.args in
    let w = a.self.now in
    let at = c.loop-mask in
    let i = at.mask-index in
    let q = flag_of w.flags.now in
    let g : ℕ → _ = λ x. candidate_of w.source.sides w.source.samples.now a.s (get_or a.clusters.masks x 0) in
    let h : i < a.clusters.count = omega (arith, c.loop-mask-test.true, length-take-le a.clusters.count a.clusters.masks (omega arith)) in
    subst (λ (m : ℕ). Ahead q (candidate_of w.source.sides w.source.samples.now a.s m) at.now at.positions at.book) (sym (get_or-take a.clusters.count a.clusters.masks i 0 h))
    (ahead_turn w.source.frame w.source.sides w.source.samples.now q g i a.clusters.count c.requires.ahead h at.invariant.done)

pub loop-mask-preserved : goal.loop-mask-preserved
loop-mask-preserved c = let a = c.args in
    let w = a.self.now in
    let at = c.loop-mask in
    let i = at.mask-index in
    let q = flag_of w.flags.now in
    let call = c.draw_vertex-now in
    let h : i < a.clusters.count = omega (arith, c.loop-mask-test.true, length-take-le a.clusters.count a.clusters.masks (omega arith)) in
    passing_turn w.source.frame w.source.sides w.source.samples.now q (λ x. candidate_of w.source.sides w.source.samples.now a.s (get_or a.clusters.masks x 0)) a.at a.table.now a.positions.now a.book.now a.clusters.count i at.now call.result at.table _ at.positions _ at.book _ at.invariant h
    (subst (λ (m : ℕ). Passed w.source.frame w.source.sides w.source.samples.now q (candidate_of w.source.sides w.source.samples.now a.s m) at.now at.table at.positions at.book call.result call.new.table call.new.positions call.new.book) (get_or-take a.clusters.count a.clusters.masks i 0 h) call.ensures)
    call.auto.table

pub returns : goal.returns
returns c = let a = c.args in
    let w = a.self.now in
    let at = c.loop-mask in
    let h : a.clusters.count ≤ at.mask-index = omega (arith, c.loop-mask-test.false, length-take-le a.clusters.count a.clusters.masks (omega arith)) in
    passing_done w.source.frame w.source.sides w.source.samples.now (flag_of w.flags.now) (λ x. candidate_of w.source.sides w.source.samples.now a.s (get_or a.clusters.masks x 0)) a.at a.table.now a.positions.now a.book.now a.clusters.count at.mask-index at.now at.table at.positions at.book at.invariant h
