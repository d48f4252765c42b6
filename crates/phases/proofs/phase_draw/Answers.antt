-- What the whole pass leaves, in the frame that is made here.
use Rattle.vertex_pass.specs.Inner.Passing.{start}
use Rattle.phases.proofs.phase_draw.Goals as goal

pub returns : goal.returns
unfolding start
returns c = rw (← c.frame_of-frame.ensures) c.draw_box-walk.ensures.passed.vertices
