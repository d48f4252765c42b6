-- The invariant and the measure of each loop of `site_vertices::Source::draw_cluster`. Assumes nothing.
use lib.Count.{ones_in}
use Rattle.site_vertices.proofs.Drawing.{Drawing}
use Rattle.site_vertices.proofs.Source.draw_cluster.Given as goal

abbrev pub invariant-loop-rest : goal.invariant-loop-rest
invariant-loop-rest l = Drawing l.self.frame l.self.sides l.self.samples.now l.s l.mask l.id l.initial.table l.table l.sum l.rest

abbrev pub decreases-loop-rest : goal.decreases-loop-rest
decreases-loop-rest l = ones_in 14 l.rest
