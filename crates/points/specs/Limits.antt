-- The frames that a build takes: origins within -1e9 to 1e9, steps within 0.001 to 1e6, ends included, no NaN. Assumes nothing.
use Rattle.std.specs.Prelude.{Bool, false, ◌&&◌, pos, Float}
use Rattle.std.specs.Float.{binary64}
use Rattle.std.specs.Float.Ieee.{of_int, round, neg, le}
use Rattle.points.specs.declared.Point.{Point}
use Rattle.points.specs.declared.Frame.{Frame}

abbrev pub billion : Float
billion = of_int binary64 (pos 1000000000)

abbrev pub million : Float
million = of_int binary64 (pos 1000000)

-- the f64 nearest to 1 / 1000
abbrev pub thousandth : Float
thousandth = round binary64 false 1 1000

-- a comparison with a NaN is false
abbrev pub within : Float → Float → Float → Bool
within least most x = le least x && le x most

abbrev pub all_within : Float → Float → Point → Bool
all_within least most p = within least most p.x && within least most p.y && within least most p.z

unfoldable pub origin_ok : Float → Bool
origin_ok x = le (neg billion) x && le x billion

unfoldable pub step_ok : Float → Bool
step_ok x = le thousandth x && le x million

unfoldable pub origins_ok : Point → Bool
origins_ok p = origin_ok p.x && origin_ok p.y && origin_ok p.z

unfoldable pub steps_ok : Point → Bool
steps_ok p = step_ok p.x && step_ok p.y && step_ok p.z

unfoldable pub frame_ok : Frame → Bool
frame_ok f = origins_ok f.origin && steps_ok f.step
