-- `crowded::flag_ends` meets its contract. Assumes nothing.
use mathlib.Core.Path.{sym}
use lib.Seq.{length-take-le}
use Rattle.crowded.proofs.Meaning.{found_ready, found-low, found-ends}
use borrow.Author.Rules.{rules}
use Rattle.crowded.proofs.flag_ends.Goals as goal

pub slice_bounds-flag_sides-end-2 : goal.slice_bounds-flag_sides-end-2
slice_bounds-flag_sides-end-2 c = sym (length-take-le _ c.prepare.new.room ((search rules)))

pub flag_sides-requires : goal.flag_sides-requires
flag_sides-requires c = let t = c.args.tris.now in
    let r = c.args.room.now in
    let first = c.prepare in
    let many = c.min in
    let l = first.new.room in (
      found_ready t r c.args.a c.requires.0 c.args.m c.args.m l first.ensures first.auto.room many.result many.ensures,
      λ k h. found-low t r c.args.a c.requires.0 c.args.m c.args.m l first.ensures first.auto.room many.result many.ensures _ (c.requires.2 k h) (c.requires.1 k h),
    )

pub returns : goal.returns
returns c = let t = c.args.tris.now in
    let r = c.args.room.now in
    let first = c.prepare in
    let many = c.min in
    let call = c.flag_sides in
    record { found = call.ensures.value; flags = found-ends t r c.args.a c.requires.0 c.args.m c.args.m first.new.room first.ensures first.auto.room many.result many.ensures call.new.room call.ensures.room_after }
