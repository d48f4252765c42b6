-- `crowded::prepare` meets its contract. Assumes nothing.
use mathlib.Core.Path.{sym}
use native.Mathlib.Omega.{arith}
use lib.Seq.{length-take-le}
use Rattle.crowded.proofs.Meaning.{prepared_by}
use borrow.Author.Rules.{rules}
use Rattle.std.proofs.Common.{ℕ, ◌+◌, ◌*◌, ◌≤◌, length}
use Rattle.crowded.proofs.prepare.Goals as goal

pub slice_bounds-over_sides-end-2 : goal.slice_bounds-over_sides-end-2
slice_bounds-over_sides-end-2 c = sym (length-take-le _ c.args.room.now ((search rules)))

pub over_sides-requires : goal.over_sides-requires
over_sides-requires c =
    let u : ℕ = length c.args.tris.now * 3 + c.min.result in
    let h : u ≤ length c.args.room.now = search rules in
    record { whole = c.requires.whole; nine = omega (arith, length-take-le u c.args.room.now h); fits = c.requires.fits }

pub returns : goal.returns
returns c = let sides = c.over_sides in
    let end = c.clear in
    prepared_by c.args.tris.now c.args.room.now c.args.a c.requires c.args.v c.args.m c.min.result c.min-2.result c.min.ensures sides.new.room end.new.s sides.ensures sides.auto.room c.min-2.ensures end.ensures
