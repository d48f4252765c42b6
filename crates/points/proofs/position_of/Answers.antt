-- `points::position_of` meets its contract. Assumes nothing.
use Rattle.points.proofs.Casts.{site-small, small_cast, place_is}
use Rattle.points.proofs.position_of.Goals as goal

pub along_axis-requires : goal.along_axis-requires
along_axis-requires c = small_cast c.ijk_of-at.result.i (site-small _ _ _ _ c.ijk_of-at.ensures c.requires).i

pub along_axis-requires-2 : goal.along_axis-requires-2
along_axis-requires-2 c = small_cast c.ijk_of-at.result.j (site-small _ _ _ _ c.ijk_of-at.ensures c.requires).j

pub along_axis-requires-3 : goal.along_axis-requires-3
along_axis-requires-3 c = small_cast c.ijk_of-at.result.k (site-small _ _ _ _ c.ijk_of-at.ensures c.requires).k

pub returns : goal.returns
returns c = place_is c.args.frame c.ijk_of-at.result _ _ _ _ c.ijk_of-at.ensures (site-small _ _ _ _ c.ijk_of-at.ensures c.requires) c.along_axis.ensures c.along_axis-2.ensures c.along_axis-3.ensures
