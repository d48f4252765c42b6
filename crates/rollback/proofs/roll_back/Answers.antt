-- `rollback::roll_back` meets its contract. Assumes nothing.
use Rattle.rollback.proofs.Rounds.{sofar_start, sofar_ready, sofar_turn, sofar_done}
use Rattle.rollback.proofs.roll_back.Goals as goal

pub loop-i-init : goal.loop-i-init
loop-i-init c = let a = c.args in sofar_start a.frame a.n a.samples.now a.masks.now a.table.now a.positions.now a.book.now a.flags.now a.count a.round

pub roll_turn-next-requires : goal.roll_turn-next-requires
roll_turn-next-requires c = let a = c.args in
    let at = c.loop-i in
    sofar_ready a.frame a.n a.samples.now a.masks.now a.table.now a.positions.now a.book.now a.flags.now a.count a.round at.i at.next at.table at.positions at.book at.invariant c.requires c.loop-i-test.true

pub loop-i-preserved : goal.loop-i-preserved
loop-i-preserved c = let a = c.args in
    let at = c.loop-i in
    let call = c.roll_turn-next in
    sofar_turn a.frame a.n a.samples.now a.masks.now a.table.now a.positions.now a.book.now a.flags.now a.count a.round at.i at.next at.table at.positions at.book at.invariant call.result _ _ _ c.loop-i-test.true call.ensures call.auto.table call.auto.positions call.auto.book

pub returns : goal.returns
returns c = let a = c.args in
    let at = c.loop-i in
    sofar_done a.frame a.n a.samples.now a.masks.now a.table.now a.positions.now a.book.now a.flags.now a.count a.round at.i at.next at.table at.positions at.book at.invariant c.loop-i-test.false
