-- From a towards b by a part of the way, three roundings: the point lies between a and where the whole way leads. So does every point of a crossed edge. Assumes nothing.
use Prim.Native.Nat.{ℕ, ◌*◌, ◌≤◌}
use native.Mathlib.Nat.{mul_assoc, mul_left_comm, mul-le-mul_right, zero-mul, mul-pos}
use native.Mathlib.Omega.{arith}
use mathlib.Core.Path.{◌≡◌, refl, sym}
use mathlib.Core.Bool.{Bool, true, false, ◌&&◌, or-true, false≢true}
use lib.IntN.{ℤ, pos}
use lib.Dec.{T, lit<, lit≤}
use lib.Ieee.{Float, nan, inf, fin, Format, binary64, unlike, up, down, add, sub, mul, lt, eq, le, fits}
use lib.Ieee.Fits.{down_pos, add-fits, sub-fits}
use Rattle.laws.proofs.Bools.{T_true, true_T}
use Rattle.laws.proofs.Floats.{gain, debt, Most}
use Rattle.samples.specs.Sides.{nought, one, finite, point_fraction}
use Rattle.samples.proofs.Held.{nought-is, one-is}
use Rattle.lattice.specs.declared.Ijk.{Ijk}
use Rattle.points.specs.declared.Point.{Point}
use Rattle.points.specs.declared.Frame.{Frame}
use Rattle.points.specs.EdgePoints.{towards, interpolate}
use Rattle.points.specs.Positions.{along, position}
use Rattle.points.specs.Limits.{frame_ok}
use Rattle.points.specs.Finite.{Under, PointUnder, OnEdge, first_end, second_end}
use Rattle.points.specs.Between.{between, point_between, whole_way}
use Rattle.points.proofs.Sizes.{under-finite, sub-under, mul-under}
use Rattle.points.proofs.Signed.{round_zero, round_order, self_round, add_mono, add-above, add-below}
use Rattle.points.proofs.Fraction.{Part, part, part-under, held-unit}
use Rattle.points.proofs.Order.{sides_differ}
use Rattle.points.proofs.Casts.{ijk_small}
use Rattle.points.proofs.Limits.{position-under}
use Rattle.points.proofs.Reach.{known}

between-up : (a x b : Float) → T (le a x) → T (le x b) → between a x b ≡ true
unfolding between
between-up a x b h g = rw (T_true (le a x) h, T_true (le x b) g)

between-down : (a x b : Float) → T (le b x) → T (le x a) → between a x b ≡ true
unfolding between
between-down a x b h g = rw (T_true (le b x) h, T_true (le x a) g) (or-true (le a x && le x b))

-- ---- a part of a value, by a fraction from 0 to 1, lies between zero and the value
-- the sign of a part does not show in its product
part-gain : (s u : Bool) (x y : ℕ) → debt s x ≡ 0 → gain (unlike s u) (x * y) ≡ x * gain u y
part-gain false false x y h = refl
part-gain false true x y h = omega arith
part-gain true false x y h = rw h (sym (zero-mul y))
part-gain true true x y h = rw h (zero-mul y)

part-debt : (s u : Bool) (x y : ℕ) → debt s x ≡ 0 → debt (unlike s u) (x * y) ≡ x * debt u y
part-debt false false x y h = omega arith
part-debt false true x y h = refl
part-debt true false x y h = rw h (zero-mul y)
part-debt true true x y h = rw h (sym (zero-mul y))

less : (x y e d : ℕ) → x ≤ e → x * y * d ≤ y * (e * d)
less x y e d h = rw (mul_assoc x y d, mul_left_comm y e d) (mul-le-mul_right (y * d) h)

module _ (f : Format) (s : Bool) (m : ℕ) (e : ℤ) (p : Part s m e) (n : ℕ) (k : ℤ) where
  part-above : T (le (fin false 0 (pos 0)) (mul f (fin s m e) (fin false n k)))
  unfolding mul
  part-above =
      let b = part-debt s false (m * up e) (n * up k) p.none in
      rw (round_zero f false) at (round_order f false 0 1 (unlike s false) (m * up e * (n * up k)) (down e * down k) (lit< tt) (mul-pos (down_pos e) (down_pos k)) (omega arith))

  part-below : T (le (mul f (fin s m e) (fin true n k)) (fin false 0 (pos 0)))
  unfolding mul
  part-below =
      let g = part-gain s true (m * up e) (n * up k) p.none in
      rw (round_zero f false) at (round_order f (unlike s true) (m * up e * (n * up k)) (down e * down k) false 0 1 (mul-pos (down_pos e) (down_pos k)) (lit< tt) (omega arith))

  part-most : T (fits f (fin false n k)) → T (le (mul f (fin s m e) (fin false n k)) (fin false n k))
  unfolding mul
  part-most F =
      let l = less (m * up e) (n * up k) (down e) (down k) p.most in
      let o : Most (unlike s false) (m * up e * (n * up k)) (down e * down k) false (n * up k) (down k) =
      rw (part-gain s false (m * up e) (n * up k) p.none) (omega arith) in
      rw (self_round f false n k F) at (round_order f (unlike s false) (m * up e * (n * up k)) (down e * down k) false (n * up k) (down k) (mul-pos (down_pos e) (down_pos k)) (down_pos k) o)

  part-least : T (fits f (fin true n k)) → T (le (fin true n k) (mul f (fin s m e) (fin true n k)))
  unfolding mul
  part-least F =
      let l = less (m * up e) (n * up k) (down e) (down k) p.most in
      let o : Most true (n * up k) (down k) (unlike s true) (m * up e * (n * up k)) (down e * down k) =
      rw (part-debt s true (m * up e) (n * up k) p.none) (omega arith) in
      rw (self_round f true n k F) at (round_order f true (n * up k) (down k) (unlike s true) (m * up e * (n * up k)) (down e * down k) (down_pos k) (mul-pos (down_pos e) (down_pos k)) o)

-- ---- so a plus a part of d lies between a and a plus d
step : (f : Format) (a d : Float) (s : Bool) (m : ℕ) (e : ℤ) → Part s m e → T (fits f a) → T (fits f d) → finite a ≡ true → finite d ≡ true → finite (mul f (fin s m e) d) ≡ true
    → between a (add f a (mul f (fin s m e) d)) (add f a d) ≡ true
unfolding finite
step f a nan s m e p A D x y z = absurd (false≢true y)
step f a (inf u) s m e p A D x y z = absurd (false≢true y)
step f a (fin false n k) s m e p A D x y z =
    let w = mul f (fin s m e) (fin false n k) in
    between-up a (add f a w) (add f a (fin false n k)) (add-above f a w A x z (part-above f s m e p n k)) (add_mono f a w (fin false n k) x z y (part-most f s m e p n k D))
step f a (fin true n k) s m e p A D x y z =
    let w = mul f (fin s m e) (fin true n k) in
    between-down a (add f a w) (add f a (fin true n k)) (add_mono f a (fin true n k) w x y z (part-least f s m e p n k D)) (add-below f a w A x z (part-below f s m e p n k))

by_part : (a b t : Float) → T (fits binary64 a) → Under a 31 → Under b 31 → T (le (fin false 0 (pos 0)) t) → T (le t (fin false 1 (pos 0)))
    → between a (towards a b t) (add binary64 a (sub binary64 b a)) ≡ true
unfolding le lt eq
by_part a b nan A x y h g = absurd h
by_part a b (inf false) A x y h g = absurd g
by_part a b (inf true) A x y h g = absurd h
by_part a b (fin s m e) A x y h g =
    let d = sub binary64 b a in
    let p = part s m e h g in
    let D = sub-under b a 31 (lit≤ tt) y x in
    let t = part-under s m e p in
    step binary64 a d s m e p A (sub-fits binary64 b a) (under-finite a 31 x) (under-finite d 32 D) (under-finite (mul binary64 (fin s m e) d) 32 (mul-under (fin s m e) d 0 32 (lit≤ tt) t D))

pub towards-between : (a b t : Float) → T (fits binary64 a) → Under a 31 → Under b 31 → le nought t ≡ true → le t one ≡ true
    → between a (towards a b t) (add binary64 a (sub binary64 b a)) ≡ true
towards-between a b t A x y h g = by_part a b t A x y (true_T _ (rw nought-is at h)) (true_T _ (rw one-is at g))

-- ---- the point of a crossed edge, on each axis
record PointFits (p : Point) : Type 0 where
  pub x : T (fits binary64 p.x)
  pub y : T (fits binary64 p.y)
  pub z : T (fits binary64 p.z)

position_fits : (f : Frame) (at : Ijk) → PointFits (position f at)
unfolding position along
position_fits f at = record { x = add-fits binary64 _ _; y = add-fits binary64 _ _; z = add-fits binary64 _ _ }

interpolate-between : (a b : Point) (t : Float) → PointFits a → PointUnder a 31 → PointUnder b 31 → le nought t ≡ true → le t one ≡ true
    → point_between a (interpolate a b t) (whole_way a b) ≡ true
unfolding point_between whole_way interpolate
interpolate-between a b t A x y h g =
    rw (towards-between a.x b.x t A.x x.x y.x h g, towards-between a.y b.y t A.y x.y y.y h g, towards-between a.z b.z t A.z x.z y.z h g)

pub edge-between : (f : Frame) (h : Float) (c : Point) → frame_ok f ≡ true → (o : OnEdge f h c)
    → point_between (position f (first_end o)) c (whole_way (position f (first_end o)) (position f (second_end o))) ≡ true
edge-between f h c ok o =
    let k = known f (first_end o) (second_end o) o.p o.q c o.is in
    let u = held-unit o.p o.q o.p_fits o.q_fits k.p_finite k.q_finite (sides_differ o.p o.q h k.p_finite k.q_finite o.differ) in
    rw (← k.is)
    (interpolate-between (position f (first_end o)) (position f (second_end o)) (point_fraction o.p o.q) (position_fits f (first_end o))
    (position-under f (first_end o) ok (ijk_small o.a.u o.a.v o.a.w o.a_low.on_u o.a_low.on_v o.a_low.on_w))
    (position-under f (second_end o) ok (ijk_small o.b.u o.b.v o.b.w o.b_low.on_u o.b_low.on_v o.b_low.on_w))
    u.0 u.1)
