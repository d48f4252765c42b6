-- `lattice::up` meets its contract. Assumes nothing.
use Rattle.lattice.proofs.OtherEnds.{up_at, up_past_u, up_past_v, up_past_w}
use Rattle.lattice.proofs.up.Goals.{else-u-n-via-then-u-n+then-v-n+else-w-n, else-u-n-via-then-u-n+else-v-n, else-u-n-via-else-u-n}
use Rattle.lattice.proofs.up.Goals as goal

pub returns-then-w-n : goal.returns-then-w-n
returns-then-w-n c = let a = c.args in up_at a.n a.p a.c c.site_number.result c.if-u-n.true c.if-v-n.true c.if-w-n.true c.site_number.ensures

pub returns : goal.returns
returns c = let a = c.args in
    elim c.else-u-n.branch [
      | else-u-n-via-then-u-n+then-v-n+else-w-n w ↦ up_past_w a.n a.p a.c w.if-u-n.true w.if-v-n.true w.if-w-n.false
      | else-u-n-via-then-u-n+else-v-n w ↦ up_past_v a.n a.p a.c w.if-u-n.true w.if-v-n.false
      | else-u-n-via-else-u-n w ↦ up_past_u a.n a.p a.c w.if-u-n.false
    ]
