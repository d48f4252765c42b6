-- Six times the volume that a triangle list encloses, in whole units, signed and exact (docs/SCOPE.md, S12). Assumes nothing.
use Rattle.std.specs.Prelude.{Bool, false, ◌&&◌, cond, List, ℕ, ◌+◌, ◌*◌, ◌/◌, ◌%◌, eqb, leb, ltb, ℤ, pos, ◌+ℤ◌, ◌-ℤ◌, ◌*ℤ◌, length, get_or, Float, Result, Ok, Err}
use Rattle.std.proofs.Math.Option.{Option}
use Rattle.std.specs.Float.{nan, inf, fin, binary64}
use Rattle.std.specs.Float.Ieee.{mul, lt}
use Rattle.laws.specs.Lists.{every, weigh}
use Rattle.laws.specs.Triangles.{Tri, tris_of}
use Rattle.units.specs.Whole.{whole_of}
use Rattle.units.specs.Coordinates.{within, less}
use Rattle.volume.specs.declared.Whole.{Whole}
use Rattle.volume.specs.declared.Refusal.{Refusal}
use Rattle.volume.specs.declared.Refusal.TheVariants.{Lists, Scale, Corner}

-- ---- the determinant of the rows a, b and c, by its first column

abbrev pub det9 : (ax ay az bx by bz cx cy cz : ℤ) → ℤ
det9 ax ay az bx by bz cx cy cz = ax *ℤ (by *ℤ cz -ℤ bz *ℤ cy) +ℤ bx *ℤ (cy *ℤ az -ℤ cz *ℤ ay) +ℤ cx *ℤ (ay *ℤ bz -ℤ az *ℤ by)

-- of the corners of a triangle, X, Y and Z giving each vertex its coordinates
unfoldable pub det : (X Y Z : ℕ → ℤ) → Tri → ℤ
det X Y Z t = det9 (X t.0) (Y t.0) (Z t.0) (X t.1) (Y t.1) (Z t.1) (X t.2) (Y t.2) (Z t.2)

-- the sum over the triangles
abbrev pub six_volume : (X Y Z : ℕ → ℤ) → List Tri → ℤ
six_volume X Y Z = weigh ◌+ℤ◌ (pos 0) (det X Y Z)

-- ---- the coordinates of a vertex: entry i of the list of positions times the scale, rounded, and less the origin's number

unfoldable pub scaled : List Float → Float → ℕ → Option ℤ
scaled P s i = whole_of (mul binary64 (get_or P i nan) s)

module _ (P : List Float) (s : Float) (o : Whole) where
  unfoldable pub axis_x : ℕ → ℤ
  axis_x v = less (scaled P s (3 * v)) o.x

  unfoldable pub axis_y : ℕ → ℤ
  axis_y v = less (scaled P s (3 * v + 1)) o.y

  unfoldable pub axis_z : ℕ → ℤ
  axis_z v = less (scaled P s (3 * v + 2)) o.z

  -- all three are within -10,000 to 10,000
  unfoldable pub corner_ok : ℕ → Bool
  corner_ok v = within (scaled P s (3 * v)) o.x && within (scaled P s (3 * v + 1)) o.y && within (scaled P s (3 * v + 2)) o.z

  unfoldable pub tri_ok : Tri → Bool
  tri_ok t = corner_ok t.0 && corner_ok t.1 && corner_ok t.2

-- ---- the answer

-- status 0 with six times the volume, or a refusal's number with 0
pub record Volume : Type 0 where
  pub status : ℕ
  pub six : ℤ

-- both in whole threes, at most 357,492 triangles, every index below the number of vertices
unfoldable pub lists_ok : List Float → List ℕ → Bool
lists_ok P T = eqb (length P % 3) 0 && eqb (length T % 3) 0 && leb (length T / 3) 357492 && every (λ v. ltb v (length P / 3)) T

-- above 0 and finite
unfoldable pub scale_ok : Float → Bool
scale_ok s = lt (fin false 0 (pos 0)) s && lt s (inf false)

unfoldable pub refused : ℕ → Volume
refused n = record { status = n; six = pos 0 }

abbrev pub number_of : Refusal → ℕ
number_of Lists = 10
number_of Scale = 12
number_of Corner = 13

-- what a result says
unfoldable pub told : Result ℤ Refusal → Volume
told (Ok six) = record { status = 0; six = six }
told (Err e) = refused (number_of e)

-- of lists and a scale that are fit
unfoldable pub summed : List Float → Float → Whole → List Tri → Volume
summed P s o ts = cond (every (tri_ok P s o) ts) (record { status = 0; six = six_volume (axis_x P s o) (axis_y P s o) (axis_z P s o) ts }) (refused 13)

unfoldable pub volume_of : List Float → List ℕ → Float → Whole → Volume
volume_of P T s o = cond (lists_ok P T) (cond (scale_ok s) (summed P s o (tris_of T)) (refused 12)) (refused 10)
