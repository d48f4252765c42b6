-- In an accepted frame each point of a crossed edge is at most 2 ^ 33 in size on each axis, and each mean of up to fourteen such points 2 ^ 47: no spike, and all finite. Assumes nothing.
use Rattle.std.specs.Prelude.{Some}
use Prim.Native.Nat.{ℕ, suc, ◌+◌, ◌*◌, ◌^◌, ◌≤◌}
use native.Mathlib.Nat.{mul-one, one-mul, le_trans, le_of_eq, mul-le-mul_right}
use native.Mathlib.Omega.{arith}
use mathlib.Core.Path.{◌≡◌, refl, sym, ap, ◌∙◌}
use mathlib.Core.Bool.{true, false, beq}
use mathlib.Core.List.{List, [], ◌∷◌}
use lib.IntN.{pos}
use lib.Dec.{T, lit≤, lit<}
use lib.ListN.{length}
use lib.Ieee.{Float, binary64, low, round, of_int, of_bits, fits}
use Rattle.samples.specs.Sides.{finite, inside, point_fraction}
use Rattle.samples.proofs.Held.{one-is}
use Rattle.lattice.specs.declared.Ijk.{Ijk}
use Rattle.lattice.specs.declared.Uvw.{Uvw}
use Rattle.lattice.specs.declared.Sides.{Sides}
use Rattle.lattice.specs.Sites.{SidesFit, InBox, ijk_of}
use Rattle.points.specs.declared.Point.{Point}
use Rattle.points.specs.declared.Frame.{Frame}
use Rattle.points.specs.Positions.{position}
use Rattle.points.specs.Limits.{frame_ok}
use Rattle.points.specs.EdgePoints.{interpolate, edge_point}
use Rattle.points.specs.Means.{zeros, plus, times, total, share, mean_of, sum_of, mean_sum}
use Rattle.points.specs.Finite.{Under, PointUnder, finite_point, has_finite_point, Low, OnEdge, AllOnEdges, end, next}
use Rattle.points.proofs.Sizes.{under_more, under-finite, add-under, mul-under}
use Rattle.points.proofs.Gaps.{Units, round_least, fraction_under}
use Rattle.points.proofs.Means.{mean_sum_lem}
use Rattle.points.proofs.Reach.{edge-under}

pub under-finite_point : (p : Point) (k : ℕ) → PointUnder p k → finite_point p ≡ true
unfolding finite_point
under-finite_point p k h = rw (under-finite p.x k h.x, under-finite p.y k h.y, under-finite p.z k h.z)

point-more : (p : Point) (j k : ℕ) → j ≤ k → PointUnder p j → PointUnder p k
point-more p j k g h = record { x = under_more p.x j k g h.x; y = under_more p.y j k g h.y; z = under_more p.z j k g h.z }

-- the sites of a box are low
pub box-low : (n : Sides) (p : Uvw) → SidesFit n → InBox n p → Low p
box-low n p f b =
    record { on_u = omega (arith, b.on_u, f.u_most); on_v = omega (arith, b.on_v, f.v_most); on_w = omega (arith, b.on_w, f.w_most) }

-- ---- a point

-- for finite samples there is a point
pub edge_at : (f : Frame) (a b : Ijk) (p q : Float) → finite p ≡ true → finite q ≡ true
    → edge_point f a b p q ≡ Some (interpolate (position f a) (position f b) (point_fraction p q))
unfolding edge_point
edge_at f a b p q x y = rw (x, y)

-- each point of a crossed edge
pub on-edge-finite : (f : Frame) (h : Float) (c : Point) → frame_ok f ≡ true → OnEdge f h c → finite_point c ≡ true
on-edge-finite f h c ok o = under-finite_point c 33 (edge-under f h c ok o)

-- finite samples on different sides of any threshold h have a point, and it is finite
pub edge-finite : (f : Frame) (h : Float) (a b : Uvw) (p q : Float) → frame_ok f ≡ true → Low a → Low b → T (fits binary64 p) → T (fits binary64 q)
    → finite p ≡ true → finite q ≡ true → beq (inside p h) (inside q h) ≡ false
    → has_finite_point (edge_point f (ijk_of a.u a.v a.w) (ijk_of b.u b.v b.w) p q) ≡ true
unfolding has_finite_point
edge-finite f h a b p q ok la lb fp fq x y d =
    let e = edge_at f (ijk_of a.u a.v a.w) (ijk_of b.u b.v b.w) p q x y in
    rw e
    (on-edge-finite f h _ ok
    (record { a = a; b = b; p = p; q = q; a_low = la; b_low = lb; p_fits = fp; q_fits = fq; differ = d; is = e }))

-- ---- a mean

one_units : Units binary64 1 (pos 0)
one_units = record { shift = low binary64; small = lit< tt; is = refl; top = lit< tt }

-- 1 / n is at most 1
pub share-under : (n : ℕ) → 1 ≤ n → Under (share n) 0
unfolding of_int one_units
share-under n h =
    rw one-is
    (fraction_under false 1 (pos 0) (round binary64 false n 1) 0 (low binary64) one_units (lit≤ tt) (lit≤ tt)
    (round_least binary64 false n 1 (n * 2 ^ low binary64) (low binary64) (lit< tt) (le_of_eq (mul-one (n * 2 ^ low binary64)))
    (le_trans (le_of_eq (sym (one-mul (2 ^ low binary64)))) (mul-le-mul_right (2 ^ low binary64) h)) (lit< tt)))

pub data AllUnder (k : ℕ) : List Point → Type 0 where
  stop : AllUnder k []
  also : {p : Point} {ps : List Point} → PointUnder p k → AllUnder k ps → AllUnder k (p ∷ ps)

total-under : (k : ℕ) (ps : List Point) (acc : Point) (i : ℕ) → k ≤ i → i + length ps ≤ 1023 → PointUnder acc i → AllUnder k ps → PointUnder (total acc ps) (i + length ps)
total-under k [] acc i h g a stop = let e : i + 0 ≡ i = omega arith in rw e a
total-under k (p ∷ ps) acc i h g a (also q r) =
    let e : i + suc (length ps) ≡ suc i + length ps = omega arith in
    let n : suc i ≤ 1023 = omega arith in
    rw e (total-under k ps (plus acc p) (suc i) (omega arith) (omega arith)
    (record {
      x = add-under acc.x p.x i n a.x (under_more p.x k i h q.x);
      y = add-under acc.y p.y i n a.y (under_more p.y k i h q.y);
      z = add-under acc.z p.z i n a.z (under_more p.z k i h q.z);
    }) r)

times-under : (p : Point) (f : Float) (k : ℕ) → k + 0 ≤ 1023 → PointUnder p k → Under f 0 → PointUnder (times p f) (k + 0)
times-under p f k h a b = record { x = mul-under p.x f k 0 h a.x b; y = mul-under p.y f k 0 h a.y b; z = mul-under p.z f k 0 h a.z b }

zeros-under : PointUnder zeros 33
unfolding of_bits
zeros-under = record { x = lit≤ tt; y = lit≤ tt; z = lit≤ tt }

pub mean-under : (ps : List Point) → 1 ≤ length ps → length ps ≤ 900 → AllUnder 33 ps → PointUnder (mean_of ps) (33 + length ps)
unfolding mean_of
mean-under [] h g a = absurd (none h)
  where
    none : 1 ≤ 0 → ⊥
    none h = omega arith
mean-under (p ∷ []) h g (also q a) = point-more p 33 34 (lit≤ tt) q
mean-under (p ∷ q ∷ ps) h g a =
    let l = suc (suc (length ps)) in
    let e : 33 + l + 0 ≡ 33 + l = omega arith in
    let t = total-under 33 (p ∷ q ∷ ps) zeros 33 (lit≤ tt) (omega arith) zeros-under a in
    rw e at (times-under (total zeros (p ∷ q ∷ ps)) (share l) (33 + l) (omega arith) t (share-under l (omega arith)))

all_under : (f : Frame) (h : Float) (cs : List Point) → frame_ok f ≡ true → AllOnEdges f h cs → AllUnder 33 cs
all_under f h [] ok end = stop
all_under f h (c ∷ cs) ok (next o r) = also (edge-under f h c ok o) (all_under f h cs ok r)

-- a mean of up to fourteen points of crossed edges
pub mean-within : (f : Frame) (h : Float) (cs : List Point) → frame_ok f ≡ true → 1 ≤ length cs → length cs ≤ 14 → AllOnEdges f h cs → PointUnder (mean_of cs) 47
mean-within f h cs ok some few o = point-more (mean_of cs) (33 + length cs) 47 (omega arith) (mean-under cs some (omega arith) (all_under f h cs ok o))

pub mean-finite : (f : Frame) (h : Float) (cs : List Point) → frame_ok f ≡ true → 1 ≤ length cs → length cs ≤ 14 → AllOnEdges f h cs → finite_point (mean_of cs) ≡ true
mean-finite f h cs ok some few o = under-finite_point (mean_of cs) 47 (mean-within f h cs ok some few o)

-- the same of what `mean` answers once these points are taken in
pub mean_sum-finite : (f : Frame) (h : Float) (cs : List Point) → frame_ok f ≡ true → 1 ≤ length cs → length cs ≤ 14 → AllOnEdges f h cs → finite_point (mean_sum (sum_of cs)) ≡ true
mean_sum-finite f h cs ok some few o = ap finite_point (mean_sum_lem cs) ∙ mean-finite f h cs ok some few o
