-- `crowded::flag_corner` meets its contract. Assumes nothing.
use Rattle.std.proofs.Common.{sym, ◌∙◌, arith}
use Rattle.crowded.proofs.Turns.{flagged-crowded, corner_yes, corner_no}
use Rattle.crowded.proofs.flag_corner.Goals as goal

pub overflow_cast-v : goal.overflow_cast-v
overflow_cast-v c = omega (arith, (c.requires.1 c.args.k c.requires.2).0)

pub flag_owner-requires : goal.flag_owner-requires
flag_owner-requires c = c.requires.1 c.args.k c.requires.2

pub returns-then-in_crowded : goal.returns-then-in_crowded
returns-then-in_crowded c = let call = c.flag_owner in
    let test = c.in_crowded in
    let on = sym (flagged-crowded c.requires.0 c.args.k c.requires.2) ∙ (sym test.ensures ∙ c.if-in_crowded.true) in
    let r = corner_yes c.args.tris.now c.args.book.now c.args.a c.args.k c.args.room.now on call.ensures.value call.ensures.room_after in record { value = r.0; room_after = r.1 }

pub returns : goal.returns
returns c = let not = sym (flagged-crowded c.requires.0 c.args.k c.requires.2) ∙ (sym c.in_crowded.ensures ∙ c.if-in_crowded.false) in
    let r = corner_no c.args.tris.now c.args.book.now c.args.a c.args.k c.args.room.now not in record { value = r.0; room_after = r.1 }
