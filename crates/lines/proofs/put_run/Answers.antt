-- `lines::put_run` meets its contract: the first lines stand there, and p is where the next key starts. Assumes nothing.
use Rattle.lines.proofs.Rows.{row-end}
use Rattle.lines.proofs.PutRuns.{put-start, put_fits, put-turn, put-done}
use Rattle.lines.proofs.put_run.Goals as goal

pub loop-v-init : goal.loop-v-init
loop-v-init c = put-start _ _ _ _ c.requires

pub slice_bounds-put_line-end : goal.slice_bounds-put_line-end
slice_bounds-put_line-end c = row-end _ _ _ c.loop-v.invariant.row _ c.key_end-q.ensures

pub put_line-next-requires : goal.put_line-next-requires
put_line-next-requires c = put_fits _ _ _ _ _ _ _ _ c.loop-v.invariant c.loop-v-test.true _ c.key_end-q.ensures _

pub loop-v-preserved : goal.loop-v-preserved
loop-v-preserved c = put-turn _ _ _ _ _ _ _ _ c.loop-v.invariant c.loop-v-test.true _ c.key_end-q.ensures _ _ c.put_line-next.ensures

pub returns : goal.returns
returns c = put-done _ _ _ _ _ _ _ _ c.loop-v.invariant c.loop-v-test.false
