-- `vertex_pass::Plan::draw_at` meets its contract. Assumes nothing.
use Rattle.vertex_pass.proofs.Site.{found-is, site-found, site-none, count_low, number-low, cases_few, cases_none, cases_one}
use Rattle.vertex_pass.proofs.Passing.{ahead_same, passed_none, passed-same}
use Rattle.vertex_pass.specs.Inner.Passing.{flag_of}
use Rattle.topology.specs.Topology.{case_number}
use Rattle.topology.specs.declared.TopologyResult.{TopologyResult}
use Rattle.lattice.proofs.Sites.{sites-most}
use mathlib.Core.Path.{sym, ap, ◌∙◌}
use native.Mathlib.Omega.{arith}
use Prim.Native.Nat.{◌<◌}
use Rattle.vertex_pass.proofs.Plan.draw_at.Goals as goal

pub returns-then-m-eq0 : goal.returns-then-m-eq0
returns-then-m-eq0 c = let a = c.args in
    let w = a.self.now in
    let z = sym (w.masked.are a.s c.requires.drawable.low) ∙ c.if-m-eq0.true in
    record { passed = passed-same w.source.frame w.source.sides w.source.samples.now (flag_of w.flags.now) (sym (site-none w.source.sides w.source.samples.now w.threshold w.cluster a.s z)) (passed_none w.source.frame w.source.sides w.source.samples.now (flag_of w.flags.now) a.at.pass a.table.now a.positions.now a.book.now); cases_after = cases_none w.source.sides w.source.samples.now w.threshold w.cluster a.s a.at.cases z c.requires.cases_before }

pub tally-cases-requires : goal.tally-cases-requires
tally-cases-requires c = let a = c.args in
    let w = a.self.now in
    let n = c.case_number in
    let l : n.result < 6 = rw n.ensures (number-low w.source.sides w.source.samples.now w.threshold w.cluster a.s _) in
    (l, omega (arith, cases_few w.source.sides w.source.samples.now w.threshold w.cluster a.s a.at.cases n.result c.requires.cases_before l, c.requires.drawable.low, sites-most w.source.sides w.masked.sampled.fit))

pub draw_site-pass-requires : goal.draw_site-pass-requires
draw_site-pass-requires c = let a = c.args in
    let w = a.self.now in
    let t = c.test_topology-found in
    let e = found-is w.source.sides w.source.samples.now w.threshold w.cluster a.s _ c.ends_of-ends.result t.result (w.masked.are a.s c.requires.drawable.low) c.ends_of-ends.ensures t.ensures in
    record { drawable = (c.requires.drawable, count_low w.source.sides w.source.samples.now w.threshold w.cluster a.s t.result e); ahead = ahead_same (flag_of w.flags.now) (site-found w.source.sides w.source.samples.now w.threshold w.cluster a.s t.result e) c.requires.ahead }

pub returns : goal.returns
returns c = let a = c.args in
    let w = a.self.now in
    let t = c.test_topology-found in
    let e = found-is w.source.sides w.source.samples.now w.threshold w.cluster a.s _ c.ends_of-ends.result t.result (w.masked.are a.s c.requires.drawable.low) c.ends_of-ends.ensures t.ensures in
    let o = c.draw_site-pass in
    let j = c.case_number in
    record { passed = passed-same w.source.frame w.source.sides w.source.samples.now (flag_of w.flags.now) (sym (site-found w.source.sides w.source.samples.now w.threshold w.cluster a.s t.result e)) o.ensures; cases_after = cases_one w.source.sides w.source.samples.now w.threshold w.cluster a.s a.at.cases c.tally-cases.result j.result (λ z. c.if-m-eq0.false (w.masked.are a.s c.requires.drawable.low ∙ z)) c.requires.cases_before (j.ensures ∙ ap (λ (x : TopologyResult). case_number x.case) e) c.tally-cases.ensures }
