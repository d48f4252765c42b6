-- `engine::Source::one_round` meets its contract. Assumes nothing.
use Rattle.engine.proofs.Rounds.{round_low, round_flaggable, round_fits, round_under, round_still, round_ready, round_turned}
use Rattle.lattice.proofs.Sites.{cells-most}
use lib.Seq.{length-take-le}
use native.Mathlib.Omega.{arith}
use mathlib.Core.Path.{refl, sym}
use Rattle.engine.proofs.Source.one_round.Goals as goal

pub overflow_mul-w : goal.overflow_mul-w
overflow_mul-w c = let R = c.requires.0 in
    omega (arith, round_low R c.requires.1 c.cell_count-a.ensures, R.lists.triangles, cells-most c.args.self.job.sides R.lists.masked.sampled.fit)

pub slice_bounds-flag_owners-end : goal.slice_bounds-flag_owners-end
slice_bounds-flag_owners-end c = round_low c.requires.0 c.requires.1 c.cell_count-a.ensures

pub slice_bounds-flag_owners-end-2 : goal.slice_bounds-flag_owners-end-2
slice_bounds-flag_owners-end-2 c = sym (length-take-le _ c.args.tris.now (round_low c.requires.0 c.requires.1 c.cell_count-a.ensures))

pub flag_owners-more-requires : goal.flag_owners-more-requires
flag_owners-more-requires c = let R = c.requires.0 in
    let x = c.requires.1 in
    let e = c.cell_count-a.ensures in
    (round_flaggable R x e, round_fits R x e, round_under R x e)

pub returns-then-not-more : goal.returns-then-not-more
returns-then-not-more c = let o = c.flag_owners-more in
    λ x. round_still c.requires.0 x c.cell_count-a.ensures o.result o.ensures.found c.if-not-more.true c.args.number

pub offset_bounds-room-a : goal.offset_bounds-room-a
offset_bounds-room-a c = omega (arith, c.cell_count-a.ensures, cells-most c.args.self.job.sides c.requires.0.lists.masked.sampled.fit)

pub roll_back-vertices-requires : goal.roll_back-vertices-requires
roll_back-vertices-requires c = let o = c.flag_owners-more in
    round_ready c.requires.0 c.requires.1 c.cell_count-a.ensures o.result o.ensures.found c.if-not-more.false _ _ o.ensures.flags o.auto.room refl c.args.number

pub march_box-triangles-requires : goal.march_box-triangles-requires
march_box-triangles-requires c = let L = c.requires.0.lists in
    record { fit = L.masked.sampled.fit; samples = L.masked.sampled.samples; table = omega (arith, L.table, c.roll_back-vertices.auto.table); room = omega (arith, L.triangles) }

pub returns : goal.returns
returns c = let o = c.flag_owners-more in
    λ x. round_turned c.requires.0 x c.cell_count-a.ensures o.result o.ensures.found c.if-not-more.false _ _ o.ensures.flags o.auto.room refl c.args.number c.roll_back-vertices.result c.march_box-triangles.result _ c.roll_back-vertices.ensures c.march_box-triangles.ensures
