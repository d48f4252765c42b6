-- `cases::site_cases` meets its contract. Assumes nothing.
use mathlib.Core.Path.{◌∙◌}
use native.Mathlib.Omega.{arith}
use Rattle.laws.proofs.Tails.{tail_is}
use Rattle.cases.proofs.Tails.{site_room_lem, site_placed, from_cases}
use Rattle.cases.proofs.site_cases.Goals as goal

pub overflow_mul-a : goal.overflow_mul-a
overflow_mul-a c = omega (arith, site_room_lem c.args.n c.args.samples.now c.args.p c.requires.0 c.requires.1 c.requires.2)

pub overflow_mul-a-2 : goal.overflow_mul-a-2
overflow_mul-a-2 c = omega (arith, site_room_lem c.args.n c.args.samples.now c.args.p c.requires.0 c.requires.1 c.requires.2)

pub offset_bounds-samples-a : goal.offset_bounds-samples-a
offset_bounds-samples-a c = omega (arith, site_room_lem c.args.n c.args.samples.now c.args.p c.requires.0 c.requires.1 c.requires.2)

pub slice_bounds-tetrahedron_cases-count : goal.slice_bounds-tetrahedron_cases-count
slice_bounds-tetrahedron_cases-count c = omega (arith, site_room_lem c.args.n c.args.samples.now c.args.p c.requires.0 c.requires.1 c.requires.2)

pub slice_bounds-tetrahedron_cases-start : goal.slice_bounds-tetrahedron_cases-start
slice_bounds-tetrahedron_cases-start c = omega (arith, site_room_lem c.args.n c.args.samples.now c.args.p c.requires.0 c.requires.1 c.requires.2)

pub tetrahedron_cases-requires : goal.tetrahedron_cases-requires
tetrahedron_cases-requires c = (site_placed c.args.n c.args.samples.now c.args.p c.requires.0 c.requires.1 c.requires.2)

pub returns : goal.returns
returns c = let a = c.args in
    rw tail_is at c.tetrahedron_cases.ensures ∙ from_cases a.n a.samples.now a.p.w c.requires.0 c.requires.2 c.requires.1.on_w a.h a.p.u a.p.v
