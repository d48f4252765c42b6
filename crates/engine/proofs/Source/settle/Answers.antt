-- `engine::Source::settle` meets its contract. Assumes nothing.
use Rattle.engine.proofs.Settling.{going_stood, going_none, going_turn, going_done}
use Rattle.engine.proofs.Source.settle.Goals as goal

pub one_round-turned-requires : goal.one_round-turned-requires
one_round-turned-requires c = let g = c.loop-round.invariant in (g.lent, going_stood g c.requires.1)

pub returns-in-None : goal.returns-in-None
returns-in-None c = going_none c.loop-round.invariant c.one_round-turned.ensures c.in-None.is

pub loop-round-preserved : goal.loop-round-preserved
loop-round-preserved c = let o = c.one_round-turned in
    going_turn c.loop-round.invariant o.ensures c.in-Some.is c.loop-round-test.true _ o.auto.table o.auto.positions o.auto.book o.auto.tris o.auto.room

pub returns : goal.returns
returns c = going_done c.loop-round.invariant c.loop-round-test.false
