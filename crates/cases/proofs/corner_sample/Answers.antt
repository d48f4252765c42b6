-- `cases::corner_sample` meets its contract. Assumes nothing.
use mathlib.Core.Path.{◌∙◌}
use Rattle.cases.proofs.Columns.{corner_view}
use Rattle.cases.proofs.corner_sample.Goals as goal

pub returns : goal.returns
returns c = c.sample_uvw.ensures ∙ corner_view c.args.n c.args.s.now c.args.u c.args.v c.args.c
