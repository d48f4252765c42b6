-- In an accepted frame the place of a site is finite, at most 2 ^ 31 on each axis. Assumes nothing.
use Prim.Native.Nat.{ℕ, suc, ◌+◌, ◌*◌, ◌^◌, ◌≤◌, ◌<◌}
use native.Mathlib.Nat.{le_trans, le_of_eq, mul-one, mul-le-mul_right}
use native.Mathlib.Omega.{arith}
use mathlib.Core.Path.{◌≡◌, refl, sym}
use mathlib.Core.Bool.{Bool, true, false, ◌&&◌, ◌||◌}
use lib.IntN.{ℤ, pos, negsuc}
use lib.Dec.{T, ltb, eqb, ltb→lt, eqb→eq, lit≤}
use lib.Ieee.{Float, nan, inf, fin, binary64, up, down, round, sub, mul, neg, le, lt, eq, of_int}
use lib.Ieee.Fits.{down_pos}
use Rattle.laws.proofs.Bools.{and-apart, true_T}
use Rattle.lattice.specs.declared.Ijk.{Ijk}
use Rattle.points.specs.declared.Point.{Point}
use Rattle.points.specs.declared.Frame.{Frame}
use Rattle.points.specs.Positions.{along, position}
use Rattle.points.specs.Limits.{billion, million, thousandth, origin_ok, step_ok, origins_ok, steps_ok, frame_ok}
use Rattle.points.specs.EdgePoints.{towards, interpolate}
use Rattle.points.specs.Finite.{Under, PointUnder}
use Rattle.points.proofs.Sizes.{under_more, add-under, sub-under, mul-under, or-le}
use Rattle.points.proofs.Casts.{Small, small-under, SmallIjk}

-- the limits as m * 2 ^ e
billion-is : billion ≡ fin false 1953125 (pos 9)
unfolding of_int
billion-is = refl

million-is : million ≡ fin false 15625 (pos 6)
unfolding of_int
million-is = refl

thousandth-is : thousandth ≡ fin false 1152921504606847 (negsuc 59)
unfolding round
thousandth-is = refl

-- at most n * 2 ^ d, so at most 2 ^ k
under_pos : (m : ℕ) (e : ℤ) (n d k : ℕ) → n * 2 ^ d ≤ 2 ^ k → T (le (fin false m e) (fin false n (pos d))) → Under (fin false m e) k
unfolding le lt eq
under_pos m e n d k h l =
    le_trans (le_of_eq (sym (mul-one (m * up e)))) (le_trans (or-le (m * up e * 1) (n * 2 ^ d * down e) true l) (mul-le-mul_right (down e) h))

sym_le : (a b : ℕ) → T (ltb b a || (eqb a b && true)) → b ≤ a
sym_le a b t = go (ltb b a) (eqb a b) (ltb→lt b a) (eqb→eq a b) t
  where
    go : (p q : Bool) → (T p → b < a) → (T q → a ≡ b) → T (p || (q && true)) → b ≤ a
    go true q f g t = let h = f tt in omega arith
    go false true f g t = let h = g tt in omega arith
    go false false f g t = absurd t

under-least : (m : ℕ) (e : ℤ) (n d k : ℕ) → n * 2 ^ d ≤ 2 ^ k → T (le (fin true n (pos d)) (fin true m e)) → Under (fin true m e) k
unfolding le lt eq
under-least m e n d k h l =
    le_trans (le_of_eq (sym (mul-one (m * up e)))) (le_trans (sym_le (n * 2 ^ d * down e) (m * up e * 1) l) (mul-le-mul_right (down e) h))

origin_go : (x : Float) → T (le (neg (fin false 1953125 (pos 9))) x) → T (le x (fin false 1953125 (pos 9))) → Under x 30
unfolding neg le lt eq
origin_go nan p q = absurd p
origin_go (inf true) p q = absurd p
origin_go (inf false) p q = absurd q
origin_go (fin false m e) p q = under_pos m e 1953125 9 30 (lit≤ tt) q
origin_go (fin true m e) p q = under-least m e 1953125 9 30 (lit≤ tt) p

pub origin_under : (x : Float) → origin_ok x ≡ true → Under x 30
unfolding origin_ok
origin_under x h =
    let p = and-apart (le (neg billion) x) (le x billion) h in
    origin_go x (true_T _ (rw billion-is at p).0) (true_T _ (rw billion-is at p).1)

or-zero : (a b : ℕ) → T (eqb a b && (false || eqb a 0)) → a ≡ 0
or-zero a b t = go (eqb a b) (eqb a 0) (eqb→eq a 0) t
  where
    go : (p q : Bool) → (T q → a ≡ 0) → T (p && (false || q)) → a ≡ 0
    go true true f t = f tt
    go true false f t = absurd t
    go false q f t = absurd t

step_go : (x : Float) → T (le (fin false 1152921504606847 (negsuc 59)) x) → T (le x (fin false 15625 (pos 6))) → Under x 20
unfolding le lt eq
step_go nan p q = absurd p
step_go (inf true) p q = absurd p
step_go (inf false) p q = absurd q
step_go (fin false m e) p q = under_pos m e 15625 6 20 (lit≤ tt) q
step_go (fin true m e) p q = absurd (clash (down e) (down_pos e) (or-zero (1152921504606847 * 1 * down e) (m * up e * 2 ^ 60) p))
  where
    clash : (d : ℕ) → 0 < d → 1152921504606847 * 1 * d ≡ 0 → ⊥
    clash d p z = omega arith

pub step-under : (x : Float) → step_ok x ≡ true → Under x 20
unfolding step_ok
step-under x h =
    let p = and-apart (le thousandth x) (le x million) h in
    step_go x (true_T _ (rw thousandth-is at p).0) (true_T _ (rw million-is at p).1)

along_under : (origin step : Float) (i : ℤ) → origin_ok origin ≡ true → step_ok step ≡ true → Small i → Under (along origin step i) 31
unfolding along
along_under origin step i o s h =
    add-under origin (mul binary64 (of_int binary64 i) step) 30 (lit≤ tt) (origin_under origin o)
    (under_more (mul binary64 (of_int binary64 i) step) 26 30 (lit≤ tt) (mul-under (of_int binary64 i) step 6 20 (lit≤ tt) (small-under i h) (step-under step s)))

pub record AllThree (ok : Float → Bool) (p : Point) : Type 0 where
  pub x : ok p.x ≡ true
  pub y : ok p.y ≡ true
  pub z : ok p.z ≡ true

all_three : (ok : Float → Bool) (p : Point) → ok p.x && ok p.y && ok p.z ≡ true → AllThree ok p
all_three ok p e =
    let b = and-apart (ok p.x && ok p.y) (ok p.z) e in
    let a = and-apart (ok p.x) (ok p.y) b.0 in
    record { x = a.0; y = a.1; z = b.1 }

pub position-under : (f : Frame) (at : Ijk) → frame_ok f ≡ true → SmallIjk at → PointUnder (position f at) 31
unfolding frame_ok origins_ok steps_ok position
position-under f at ok h =
    let b = and-apart (origins_ok f.origin) (steps_ok f.step) ok in
    let o = all_three origin_ok f.origin b.0 in
    let s = all_three step_ok f.step b.1 in
    record {
      x = along_under f.origin.x f.step.x at.i o.x s.x h.i;
      y = along_under f.origin.y f.step.y at.j o.y s.y h.j;
      z = along_under f.origin.z f.step.z at.k o.z s.z h.k;
    }

towards-under : (a b t : Float) (k : ℕ) → k ≤ 980 → Under a 31 → Under b 31 → Under t k → Under (towards a b t) (suc (k + 32))
towards-under a b t k K h g f =
    add-under a (mul binary64 t (sub binary64 b a)) (k + 32) (omega arith)
    (under_more a 31 (k + 32) (omega arith) h)
    (mul-under t (sub binary64 b a) k 32 (omega arith) f (sub-under b a 31 (lit≤ tt) g h))

-- the fraction's size decides that of a point between two places
pub interpolate-under : (a b : Point) (t : Float) (k : ℕ) → k ≤ 980 → PointUnder a 31 → PointUnder b 31 → Under t k → PointUnder (interpolate a b t) (suc (k + 32))
unfolding interpolate
interpolate-under a b t k K p q f =
    record {
      x = towards-under a.x b.x t k K p.x q.x f;
      y = towards-under a.y b.y t k K p.y q.y f;
      z = towards-under a.z b.z t k K p.z q.z f;
    }
