-- `engine::Source::make` meets its contract. Assumes nothing.
use Rattle.engine.proofs.Making.{none_paired, first-low, first_flaggable, first_fits, first_under, first_finished, first_parting, first_over}
use Rattle.lattice.proofs.Sites.{cells-most}
use lib.Seq.{length-take-le}
use native.Mathlib.Omega.{arith}
use Rattle.engine.proofs.Standing.{roomy_after}
use mathlib.Core.Path.{sym, ◌∙◌}
use Rattle.engine.proofs.Source.make.Goals as goal

pub draw-drawn-requires : goal.draw-drawn-requires
draw-drawn-requires c = let R = c.requires in (R.lists, none_paired R)

pub overflow_mul-w : goal.overflow_mul-w
overflow_mul-w c = let R = c.requires in omega (arith, first-low R c.draw-drawn.ensures, R.lists.triangles, cells-most c.args.self.job.sides R.lists.masked.sampled.fit)

pub slice_bounds-flag_ends-end : goal.slice_bounds-flag_ends-end
slice_bounds-flag_ends-end c = let d = c.draw-drawn in omega (arith, first-low c.requires d.ensures, d.auto.tris)

pub slice_bounds-flag_ends-end-2 : goal.slice_bounds-flag_ends-end-2
slice_bounds-flag_ends-end-2 c = let d = c.draw-drawn in sym (length-take-le _ _ (omega (arith, first-low c.requires d.ensures, d.auto.tris)))

pub flag_ends-requires : goal.flag_ends-requires
flag_ends-requires c = let R = c.requires in
    let e = c.cell_count-a.ensures in
    let D = c.draw-drawn.ensures in
    (first_flaggable R D e, first_fits R D e, first_under R D e)

pub remake-requires : goal.remake-requires
remake-requires c = let R = c.requires in
    let d = c.draw-drawn in
    let o = c.flag_ends in
    (roomy_after R d.auto.table d.auto.positions d.auto.book d.auto.tris o.auto.room, first_parting R d.ensures c.cell_count-a.ensures o.ensures.found c.if-flag_ends.true o.ensures.flags)

pub shape_of-table-then-flag_ends : goal.shape_of-table-then-flag_ends
shape_of-table-then-flag_ends c = c.remake.auto.table ∙ c.draw-drawn.auto.table

pub shape_of-positions-then-flag_ends : goal.shape_of-positions-then-flag_ends
shape_of-positions-then-flag_ends c = c.remake.auto.positions ∙ c.draw-drawn.auto.positions

pub shape_of-book-then-flag_ends : goal.shape_of-book-then-flag_ends
shape_of-book-then-flag_ends c = c.remake.auto.book ∙ c.draw-drawn.auto.book

pub returns-then-flag_ends : goal.returns-then-flag_ends
returns-then-flag_ends c = first_over c.requires c.draw-drawn.ensures c.remake.ensures

pub returns : goal.returns
returns c = first_finished c.requires c.draw-drawn.ensures c.cell_count-a.ensures c.flag_ends.ensures.found c.if-flag_ends.false
