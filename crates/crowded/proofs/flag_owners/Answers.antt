-- `crowded::flag_owners` meets its contract. Assumes nothing.
use mathlib.Core.Path.{sym, ◌∙◌}
use lib.Seq.{length-take-le}
use Rattle.crowded.proofs.Meaning.{fits_under, found_ready, found-low, found-owners, owners-found}
use borrow.Author.Rules.{rules}
use Rattle.crowded.proofs.flag_owners.Goals as goal

pub slice_bounds-flag_corners-end-2 : goal.slice_bounds-flag_corners-end-2
slice_bounds-flag_corners-end-2 c = sym (length-take-le _ c.prepare.new.room ((search rules)))

pub flag_corners-requires : goal.flag_corners-requires
flag_corners-requires c = let t = c.args.tris.now in
    let r = c.args.room.now in
    let first = c.prepare in
    let many = c.min in
    let l = first.new.room in (
      found_ready t r c.args.a c.requires.0 c.args.v c.args.m l first.ensures first.auto.room many.result many.ensures,
      λ k h. ((c.requires.1 k h).0, found-low t r c.args.a c.requires.0 c.args.v c.args.m l first.ensures first.auto.room many.result many.ensures _ (c.requires.2 k h) (c.requires.1 k h).1),
    )

pub returns : goal.returns
returns c = let t = c.args.tris.now in
    let r = c.args.room.now in
    let first = c.prepare in
    let many = c.min in
    let call = c.flag_corners in
    let b = c.args.book.now in
    record {
      found = call.ensures.value ∙ owners-found t b c.requires.0.whole _ (λ k h. fits_under c.args.m c.args.a r _ (c.requires.2 k h) (c.requires.1 k h).1);
      flags = found-owners t r c.args.a c.requires.0 c.args.v c.args.m first.new.room first.ensures first.auto.room many.result many.ensures call.new.room b call.ensures.room_after;
    }
