-- The point on an edge: from the marked site towards the neighbour by the fraction of a point, which is held between 0 and 1; missing where a sample is not finite. Assumes nothing.
use Rattle.std.specs.Prelude.{◌&&◌, cond, Float, Option, None, Some}
use Rattle.std.specs.Float.{binary64}
use Rattle.std.specs.Float.Ieee.{add, mul, sub}
use Rattle.samples.specs.Sides.{finite, point_fraction}
use Rattle.lattice.specs.declared.Ijk.{Ijk}
use Rattle.points.specs.declared.Point.{Point}
use Rattle.points.specs.declared.Frame.{Frame}
use Rattle.points.specs.Positions.{position}

-- a + t (b - a), three roundings
abbrev pub towards : Float → Float → Float → Float
towards a b t = add binary64 a (mul binary64 t (sub binary64 b a))

unfoldable pub interpolate : Point → Point → Float → Point
interpolate a b t = record { x = towards a.x b.x t; y = towards a.y b.y t; z = towards a.z b.z t }

-- the marked place a has the sample p, its neighbour b has q
unfoldable pub edge_point : Frame → Ijk → Ijk → Float → Float → Option Point
edge_point f a b p q =
    cond (finite p && finite q) (Some (interpolate (position f a) (position f b) (point_fraction p q))) None
