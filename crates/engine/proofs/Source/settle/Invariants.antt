-- The invariant of the loop of `engine::Source::settle`. Assumes nothing.
use Rattle.engine.proofs.Settling.{Going}
use Rattle.engine.specs.Engine.{work}
use Rattle.engine.proofs.Source.settle.Given as goal

abbrev pub invariant-loop-round : goal.invariant-loop-round
invariant-loop-round l = Going l.self.job l.self.samples.now l.initial.stand (work l.initial.table l.initial.positions l.initial.book l.initial.tris) l.self.masks.now l.initial.room l.round l.stand (work l.table l.positions l.book l.tris) l.room
