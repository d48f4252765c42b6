-- What the private functions answer on the way: no public promise cites this. Assumes nothing.
use Rattle.std.specs.Prelude.{◌≡◌, cond, List, ℕ, ◌≤◌, ℤ, Float, Option, Some, None}
use Rattle.laws.specs.Ints.{size_of}
use Rattle.laws.specs.Triangles.{Tri}
use Rattle.volume.specs.declared.Whole.{Whole}
use Rattle.volume.specs.Volume.{det, axis_x, axis_y, axis_z, corner_ok, tri_ok}

abbrev pub whole3 : ℤ → ℤ → ℤ → Whole
whole3 x y z = record { x = x; y = y; z = z }

-- each coordinate is within -10,000 to 10,000
abbrev pub Near : Whole → Type 0
Near p = (size_of p.x ≤ 10000) × (size_of p.y ≤ 10000) × (size_of p.z ≤ 10000)

-- r is z, which is at most m in size
pub record Sized (z : ℤ) (m : ℕ) (r : ℤ) : Type 0 where
  pub is : r ≡ z
  pub most : size_of r ≤ m

-- the corner at vertex v, and the determinant of a triangle
unfoldable pub corner_of : List Float → Float → Whole → ℕ → Option Whole
corner_of P s o v = cond (corner_ok P s o v) (Some (whole3 (axis_x P s o v) (axis_y P s o v) (axis_z P s o v))) None

unfoldable pub term_of : List Float → Float → Whole → Tri → Option ℤ
term_of P s o t = cond (tri_ok P s o t) (Some (det (axis_x P s o) (axis_y P s o) (axis_z P s o) t)) None
