-- `engine::Source::remake` meets its contract. Assumes nothing.
use Rattle.engine.proofs.Making.{split_paired, split_stood, split_finished}
use Rattle.engine.proofs.Standing.{roomy_after}
use mathlib.Core.Path.{refl}
use Rattle.engine.proofs.Source.remake.Goals as goal

pub draw-drawn-requires : goal.draw-drawn-requires
draw-drawn-requires c = (c.requires.0.lists, split_paired c.requires.0 c.cell_count-a.ensures c.requires.1 refl)

pub settle-rolled-requires : goal.settle-rolled-requires
settle-rolled-requires c = let d = c.draw-drawn in
    (roomy_after c.requires.0 d.auto.table d.auto.positions d.auto.book d.auto.tris refl, split_stood c.requires.0 c.requires.1 c.cell_count-a.ensures refl d.ensures)

pub returns : goal.returns
returns c = split_finished c.requires.0 c.requires.1 c.cell_count-a.ensures refl c.draw-drawn.ensures c.settle-rolled.ensures
