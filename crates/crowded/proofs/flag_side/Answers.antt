-- `crowded::flag_side` meets its contract. Assumes nothing.
use Rattle.std.proofs.Common.{sym, arith}
use Rattle.crowded.proofs.Turns.{next_low, flag_yes, flag_no, side_yes, side_no}
use Rattle.crowded.proofs.flag_side.Goals as goal

pub returns-then-room-k-eq1 : goal.returns-then-room-k-eq1
returns-then-room-k-eq1 c = let o = flag_yes c.requires.0 c.args.k c.requires.2 c.if-room-k-eq1.true in
    record { value = sym o; room_after = side_yes c.args.tris.now c.args.a c.args.k c.args.room.now c.next_corner-n.result c.next_corner-n.ensures o }

pub returns : goal.returns
returns c = let o = flag_no c.requires.0 c.args.k c.requires.2 c.if-room-k-eq1.false in
    record { value = sym o; room_after = side_no c.args.tris.now c.args.a c.args.k c.args.room.now o }

pub offset_bounds-tris-n : goal.offset_bounds-tris-n
offset_bounds-tris-n c = omega (arith, next_low c.args.tris.now c.requires.0.whole c.args.k c.requires.2, c.next_corner-n.ensures)

pub bounds-tris-n : goal.bounds-tris-n
bounds-tris-n c = omega (arith, next_low c.args.tris.now c.requires.0.whole c.args.k c.requires.2, c.next_corner-n.ensures)
