-- `build::grant` meets its contract. Assumes nothing.
use Rattle.build.proofs.Grants.{grant_handed, grant_leaves}
use Rattle.lattice.proofs.Sites.{cells-most, sites-most}
use lib.Seq.{length-take-le}
use native.Mathlib.Omega.{arith}
use mathlib.Core.Path.{sym}
use Rattle.build.proofs.grant.Goals as goal

pub site_count-k-requires : goal.site_count-k-requires
site_count-k-requires c = c.requires.fit

pub cell_count-c-requires : goal.cell_count-c-requires
cell_count-c-requires c = c.requires.fit

pub overflow_mul-e : goal.overflow_mul-e
overflow_mul-e c = omega (arith, c.site_count-k.ensures, sites-most c.args.job.sides c.requires.fit)

pub overflow_mul-t : goal.overflow_mul-t
overflow_mul-t c = omega (arith, c.cell_count-c.ensures, cells-most c.args.job.sides c.requires.fit)

pub overflow_mul-w : goal.overflow_mul-w
overflow_mul-w c = omega (arith, c.cell_count-c.ensures, cells-most c.args.job.sides c.requires.fit)

pub slice_bounds-run-end : goal.slice_bounds-run-end
slice_bounds-run-end c = omega (arith, c.site_count-k.ensures, c.requires.masks)

pub slice_bounds-run-end-2 : goal.slice_bounds-run-end-2
slice_bounds-run-end-2 c = sym (length-take-le _ _ (omega (arith, c.site_count-k.ensures, c.requires.masks)))

pub slice_bounds-run-end-3 : goal.slice_bounds-run-end-3
slice_bounds-run-end-3 c = omega (arith, c.site_count-k.ensures, c.requires.table)

pub slice_bounds-run-end-4 : goal.slice_bounds-run-end-4
slice_bounds-run-end-4 c = sym (length-take-le _ _ (omega (arith, c.site_count-k.ensures, c.requires.table)))

pub slice_bounds-run-end-5 : goal.slice_bounds-run-end-5
slice_bounds-run-end-5 c = omega (arith, c.cell_count-c.ensures, c.requires.triangles)

pub slice_bounds-run-end-6 : goal.slice_bounds-run-end-6
slice_bounds-run-end-6 c = sym (length-take-le _ _ (omega (arith, c.cell_count-c.ensures, c.requires.triangles)))

pub slice_bounds-run-end-7 : goal.slice_bounds-run-end-7
slice_bounds-run-end-7 c = omega (arith, c.cell_count-c.ensures, c.requires.edges)

pub slice_bounds-run-end-8 : goal.slice_bounds-run-end-8
slice_bounds-run-end-8 c = sym (length-take-le _ _ (omega (arith, c.cell_count-c.ensures, c.requires.edges)))

pub run-made-requires : goal.run-made-requires
run-made-requires c = grant_handed c.requires c.site_count-k.ensures c.cell_count-c.ensures

pub returns : goal.returns
returns c = grant_leaves c.requires c.site_count-k.ensures c.cell_count-c.ensures c.run-made.ensures c.counted.ensures
