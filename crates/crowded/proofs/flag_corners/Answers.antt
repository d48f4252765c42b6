-- `crowded::flag_corners` meets its contract: after k turns the list is `fold (owner_turn ..) k` of what it was. Assumes nothing.
use Rattle.std.proofs.Common.{arith}
use Rattle.crowded.specs.Inner.Turns.{wanted, owner_turn}
use Rattle.crowded.proofs.Turns.{looped_start, looped_ready, looped_turn, owner_keeps}
use Rattle.crowded.proofs.flag_corners.Goals as goal

pub loop-k-init : goal.loop-k-init
loop-k-init c = let t = c.args.tris.now in
    let b = c.args.book.now in
    looped_start t c.args.a (owner_turn t b c.args.a) (wanted t b) c.args.room.now

pub flag_corner-found-requires : goal.flag_corner-found-requires
flag_corner-found-requires c = let at = c.loop-k in
    let t = c.args.tris.now in
    let b = c.args.book.now in
    (looped_ready t c.args.a (owner_turn t b c.args.a) (wanted t b) c.args.room.now at.invariant (owner_keeps t b c.args.a) c.requires.0, (λ k h. ((c.requires.1 k h).0, omega (arith, (c.requires.1 k h).1, at.invariant.long))), c.loop-k-test.true)

pub loop-k-preserved : goal.loop-k-preserved
loop-k-preserved c = let at = c.loop-k in
    let call = c.flag_corner-found in
    let t = c.args.tris.now in
    let b = c.args.book.now in
    looped_turn t c.args.a (owner_turn t b c.args.a) (wanted t b) c.args.room.now at.invariant c.loop-k-test.true _ _ call.ensures.room_after call.auto.room call.ensures.value
