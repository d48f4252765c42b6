-- Where a lattice place stands in a frame: on each axis origin + (ijk as f64) * step, two roundings. Assumes nothing.
use Rattle.std.specs.Prelude.{ℤ, Float}
use Rattle.std.specs.Float.{binary64}
use Rattle.std.specs.Float.Ieee.{add, mul, of_int}
use Rattle.lattice.specs.declared.Ijk.{Ijk}
use Rattle.points.specs.declared.Point.{Point}
use Rattle.points.specs.declared.Frame.{Frame}

unfoldable pub frame_of : Point → Point → Frame
frame_of origin step = record { origin = origin; step = step }

unfoldable pub along : Float → Float → ℤ → Float
along origin step i = add binary64 origin (mul binary64 (of_int binary64 i) step)

unfoldable pub position : Frame → Ijk → Point
position f at = record {
  x = along f.origin.x f.step.x at.i;
  y = along f.origin.y f.step.y at.j;
  z = along f.origin.z f.step.z at.k;
}
