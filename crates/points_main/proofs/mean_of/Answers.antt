-- A turn counts one point.
use Rattle.std.proofs.Common.{◌≡◌, ◌+◌, arith}
use Rattle.points.proofs.Means.{more-count}
use Rattle.points_main.proofs.mean_of.Goals as goal

pub loop-preserved : goal.loop-preserved
loop-preserved c = let h : c.with_point-s.result.count ≡ c.loop.s.count + 1 = more-count _ _ _ c.with_point-s.ensures in omega arith
