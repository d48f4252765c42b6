-- The invariant of the loop of `vertex_pass::Plan::draw_site`. Assumes nothing.
use Rattle.vertex_pass.proofs.Passing.{Passing}
use Rattle.vertex_pass.specs.Inner.Passing.{candidate_of, flag_of}
use lib.ListN.{get_or}
use Rattle.vertex_pass.proofs.Plan.draw_site.Given as goal

abbrev pub invariant-loop-mask : goal.invariant-loop-mask
invariant-loop-mask l = Passing l.self.source.frame l.self.source.sides l.self.source.samples.now (flag_of l.self.flags.now) (λ x. candidate_of l.self.source.sides l.self.source.samples.now l.s (get_or l.fn.clusters.masks x 0)) l.initial.now l.initial.table l.initial.positions l.initial.book l.fn.clusters.count l.mask-index l.now l.table l.positions l.book
