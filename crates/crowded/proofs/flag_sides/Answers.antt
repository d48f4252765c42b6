-- `crowded::flag_sides` meets its contract: after k turns the list is `fold (end_turn ..) k` of what it was. Assumes nothing.
use Rattle.std.proofs.Common.{arith}
use Rattle.pairs.specs.Sides.{crowded}
use Rattle.crowded.specs.Inner.Turns.{end_turn}
use Rattle.crowded.proofs.Turns.{looped_start, looped_ready, looped_turn, end_keeps}
use Rattle.crowded.proofs.flag_sides.Goals as goal

pub loop-k-init : goal.loop-k-init
loop-k-init c = looped_start c.args.tris.now c.args.a (end_turn c.args.tris.now c.args.a) (crowded c.args.tris.now) c.args.room.now

pub flag_side-found-requires : goal.flag_side-found-requires
flag_side-found-requires c = let at = c.loop-k in
    let t = c.args.tris.now in
    (looped_ready t c.args.a (end_turn t c.args.a) (crowded t) c.args.room.now at.invariant (end_keeps t c.args.a) c.requires.0, λ k h. omega (arith, c.requires.1 k h, at.invariant.long), c.loop-k-test.true)

pub loop-k-preserved : goal.loop-k-preserved
loop-k-preserved c = let at = c.loop-k in
    let call = c.flag_side-found in
    let t = c.args.tris.now in
    looped_turn t c.args.a (end_turn t c.args.a) (crowded t) c.args.room.now at.invariant c.loop-k-test.true _ _ call.ensures.room_after call.auto.room call.ensures.value
