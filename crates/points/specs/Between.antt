-- Which values lie between two others, and on which axes a point does: what the theorem speaks of that a point stands on its edge. Assumes nothing.
use Rattle.std.specs.Prelude.{Bool, ◌&&◌, ◌||◌, Float}
use Rattle.std.specs.Float.{binary64}
use Rattle.std.specs.Float.Ieee.{add, sub, le}
use Rattle.points.specs.declared.Point.{Point}

-- x lies between a and b, whichever of them is the smaller
unfoldable pub between : Float → Float → Float → Bool
between a x b = (le a x && le x b) || (le b x && le x a)

unfoldable pub point_between : Point → Point → Point → Bool
point_between a p b = between a.x p.x b.x && between a.y p.y b.y && between a.z p.z b.z

-- from a the whole way towards b: a + (b - a), two roundings
unfoldable pub whole_way : Point → Point → Point
whole_way a b = record {
  x = add binary64 a.x (sub binary64 b.x a.x);
  y = add binary64 a.y (sub binary64 b.y a.y);
  z = add binary64 a.z (sub binary64 b.z a.z);
}
