-- `crowded::flag_owner` meets its contract. Assumes nothing.
use Rattle.std.proofs.Common.{sym, lt-ltb, le-ltb}
use Rattle.crowded.proofs.Turns.{mark_yes, mark_no}
use Rattle.crowded.proofs.flag_owner.Goals as goal

pub returns-then-book-w-gt1 : goal.returns-then-book-w-gt1
returns-then-book-w-gt1 c = let e = lt-ltb 1 _ c.if-book-w-gt1.true in
    record { value = sym e; room_after = mark_yes c.args.a _ _ c.args.room.now e }

pub returns : goal.returns
returns c = let e = le-ltb 1 _ c.if-book-w-gt1.false in
    record { value = sym e; room_after = mark_no c.args.a _ _ c.args.room.now e }
