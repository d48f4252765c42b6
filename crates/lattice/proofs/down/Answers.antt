-- `lattice::down` meets its contract. Assumes nothing.
use Rattle.lattice.proofs.OtherEnds.{down-at, down_past_u, down_past_v, down_past_w}
use Rattle.lattice.proofs.down.Goals.{else-du-p-via-then-du-p+then-dv-p+else-dw-p, else-du-p-via-then-du-p+else-dv-p, else-du-p-via-else-du-p}
use Rattle.lattice.proofs.down.Goals as goal

pub returns-then-dw-p : goal.returns-then-dw-p
returns-then-dw-p c = let a = c.args in down-at a.n a.p a.c c.site_number.result c.if-du-p.true c.if-dv-p.true c.if-dw-p.true c.site_number.ensures

pub returns : goal.returns
returns c = let a = c.args in
    elim c.else-du-p.branch [
      | else-du-p-via-then-du-p+then-dv-p+else-dw-p w ↦ down_past_w a.n a.p a.c w.if-du-p.true w.if-dv-p.true w.if-dw-p.false
      | else-du-p-via-then-du-p+else-dv-p w ↦ down_past_v a.n a.p a.c w.if-du-p.true w.if-dv-p.false
      | else-du-p-via-else-du-p w ↦ down_past_u a.n a.p a.c w.if-du-p.false
    ]
