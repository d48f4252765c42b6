-- The mean of points: one is used unaltered; several are summed from 0.0 in order, then multiplied by 1 / n. Assumes nothing.
use Rattle.std.specs.Prelude.{cond, List, [], ◌∷◌, ℕ, ◌+◌, eqb, length, pos, Float}
use Rattle.std.specs.Float.{binary64}
use Rattle.std.specs.Float.Ieee.{add, mul, div, of_int}
use Rattle.samples.specs.Sides.{nought, one}
use Rattle.points.specs.declared.Point.{Point}
use Rattle.points.specs.declared.Sum.{Sum}

abbrev pub zeros : Point
zeros = record { x = nought; y = nought; z = nought }

abbrev pub plus : Point → Point → Point
plus a b = record { x = add binary64 a.x b.x; y = add binary64 a.y b.y; z = add binary64 a.z b.z }

abbrev pub times : Point → Float → Point
times a k = record { x = mul binary64 a.x k; y = mul binary64 a.y k; z = mul binary64 a.z k }

-- the points added in order to what is there
abbrev pub total : Point → List Point → Point
total acc [] = acc
total acc (p ∷ ps) = total (plus acc p) ps

-- 1 / n
abbrev pub share : ℕ → Float
share n = div binary64 one (of_int binary64 (pos n))

-- a cluster without a point makes no vertex, so nobody asks for the mean of none, which is NaN
unfoldable pub mean_of : List Point → Point
mean_of [] = times zeros (share 0)
mean_of (p ∷ []) = p
mean_of (p ∷ q ∷ ps) = times (total zeros (p ∷ q ∷ ps)) (share (length (p ∷ q ∷ ps)))

-- ---- the same one point at a time: `sum_of ps` is what the points ps leave, and its mean is `mean_of ps` (proofs/Means.antt)

abbrev pub none : Sum
none = record { last = zeros; total = zeros; count = 0 }

unfoldable pub more : Sum → Point → Sum
more s p = record { last = p; total = plus s.total p; count = s.count + 1 }

abbrev pub gather : Sum → List Point → Sum
gather s [] = s
gather s (p ∷ ps) = gather (more s p) ps

unfoldable pub sum_of : List Point → Sum
sum_of ps = gather none ps

unfoldable pub mean_sum : Sum → Point
mean_sum s = cond (eqb s.count 1) s.last (times s.total (share s.count))
