-- The invariant and the measure of each loop of `site_vertices::Source::draw_singles`. Assumes nothing.
use lib.Count.{ones_in}
use Rattle.site_vertices.proofs.Appending.{Appending}
use Rattle.site_vertices.proofs.Source.draw_singles.Given as goal

abbrev pub invariant-loop-left : goal.invariant-loop-left
invariant-loop-left l = Appending l.self.frame l.self.sides l.self.samples.now l.round l.s l.mask l.next l.initial.table l.initial.positions l.initial.book l.table l.positions l.book l.at l.left

abbrev pub decreases-loop-left : goal.decreases-loop-left
decreases-loop-left l = ones_in 14 l.left
