-- `points::frame_ok` meets its contract: the limits that the source writes are those of the definition, by computing. Assumes nothing.
use Rattle.std.proofs.Common.{◌≡◌}
use lib.Ieee.{of_bits, of_int, round, neg}
use Rattle.points.specs.Limits.{origin_ok, step_ok, origins_ok, steps_ok, frame_ok}
use Rattle.points.proofs.frame_ok.Goals as goal

pub returns-then-all_within : goal.returns-then-all_within
unfolding frame_ok origins_ok steps_ok origin_ok step_ok of_bits of_int round neg
returns-then-all_within c =
    let origins : c.all_within.result ≡ origins_ok c.args.frame.origin = c.all_within.ensures in
    rw (← origins, c.if-all_within.true) c.all_within-then-all_within.ensures

pub returns-else-all_within : goal.returns-else-all_within
unfolding frame_ok origins_ok origin_ok of_bits of_int round neg
returns-else-all_within c =
    let origins : c.all_within.result ≡ origins_ok c.args.frame.origin = c.all_within.ensures in
    rw (← origins, c.if-all_within.false)
