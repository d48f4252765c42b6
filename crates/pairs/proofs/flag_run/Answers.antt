-- `pairs::flag_run` meets its contract. Assumes nothing.
use native.Mathlib.Omega.{arith}
use Rattle.sort.proofs.Records.{recs-length}
use Rattle.pairs.proofs.flag_run.Goals as goal

pub put_flags-requires : goal.put_flags-requires
put_flags-requires c = omega (arith, c.run-r.ensures.within, recs-length c.args.s.now)
