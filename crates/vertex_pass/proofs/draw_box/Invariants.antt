-- The invariant of the loop of `vertex_pass::draw_box`. Assumes nothing.
use Rattle.vertex_pass.proofs.Box.{Walking}
use Rattle.vertex_pass.specs.Inner.Passing.{flag_of}
use Rattle.lattice.specs.Sites.{sites}
use mathlib.Core.Path.{◌≡◌}
use Rattle.vertex_pass.proofs.draw_box.Given as goal

abbrev pub invariant-loop-s : goal.invariant-loop-s
invariant-loop-s l = Walking l.fn.frame l.fn.n l.samples l.h l.cluster (flag_of l.flags) l.initial.positions l.initial.book l.s l.at l.table l.positions l.book × (l.k ≡ sites l.fn.n)
