-- `vertex_pass::draw_box` meets its contract. Assumes nothing.
use Rattle.vertex_pass.proofs.Box.{walking_start, walking_ahead, walking-turn, walking-done}
use Rattle.vertex_pass.specs.Inner.Passing.{flag_of, start}
use Rattle.march.specs.March.{none}
use Rattle.lattice.specs.Sites.{sites}
use lib.ListN.{replicate}
use mathlib.Core.Path.{refl, ap, ◌∙◌}
use Prim.Native.Nat.{◌<◌}
use native.Mathlib.Omega.{arith}
use Rattle.vertex_pass.proofs.draw_box.Goals as goal

pub site_count-k-requires : goal.site_count-k-requires
site_count-k-requires c = c.requires.masked.0.sampled.fit

pub loop-s-init : goal.loop-s-init
unfolding start
loop-s-init c = let a = c.args in
    let e = c.empty_table.ensures ∙ ap (λ x. replicate x none) c.requires.masked.1 in
    (walking_start a.frame a.n a.samples.now a.h a.cluster (flag_of a.flags.now) a.positions.now a.book.now _ _ refl refl e, c.site_count-k.ensures)

pub draw_at-at-requires : goal.draw_at-at-requires
draw_at-at-requires c = let a = c.args in
    let at = c.loop-s in
    let l : at.s < sites a.n = omega (arith, at.invariant.1, c.loop-s-test.true) in
    record { drawable = record { low = l; table = omega (arith, at.invariant.0.long) }; ahead = walking_ahead a.frame a.n a.samples.now a.h a.cluster (flag_of a.flags.now) a.positions.now a.book.now at.s at.at at.table at.positions at.book at.invariant.0 c.requires.ahead l; cases_before = at.invariant.0.cases }

pub loop-s-preserved : goal.loop-s-preserved
loop-s-preserved c = let a = c.args in
    let at = c.loop-s in
    let call = c.draw_at-at in
    let l : at.s < sites a.n = omega (arith, at.invariant.1, c.loop-s-test.true) in
    (walking-turn a.frame a.n a.samples.now a.h a.cluster (flag_of a.flags.now) a.positions.now a.book.now at.s at.at at.table at.positions at.book at.invariant.0 call.result _ _ _ l call.ensures.passed call.ensures.cases_after call.auto.table, at.invariant.1)

pub returns : goal.returns
returns c = let a = c.args in
    let at = c.loop-s in
    walking-done a.frame a.n a.samples.now a.h a.cluster (flag_of a.flags.now) a.positions.now a.book.now at.s at.at at.table at.positions at.book at.invariant.0 (omega (arith, at.invariant.1, c.loop-s-test.false))
