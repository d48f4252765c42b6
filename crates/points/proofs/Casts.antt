-- The numbers i, j and k of a site are small: the cast to f64 loses nothing, and three casts make the site's place. Assumes nothing.
use mathlib.Core.Path.{◌≡◌, sym, ap, subst, ◌∙◌}
use Prim.Native.Nat.{ℕ, suc, ◌+◌, ◌^◌, ◌≤◌, ◌<◌}
use native.Mathlib.Omega.{arith}
use lib.Dec.{T, lit≤}
use borrow.Author.Tests.{le-leb, lt-ltb}
use native.Mathlib.Nat.{le_trans}
use lib.IntN.{ℤ, pos, negsuc, ◌-ℤ◌}
use lib.Ieee.{Float, binary64, of_int, to_signed, in_float}
use lib.Signed.{mag}
use lib.Ieee.Back.{positive_back, negative_back}
use Rattle.laws.proofs.Bools.{true_T}
use Rattle.laws.proofs.Ints.{above, under, nat, neg, ◌⊞◌}
use Rattle.lattice.specs.declared.Ijk.{Ijk}
use Rattle.lattice.specs.Sites.{ijk_of}
use Rattle.lattice.proofs.Owner.{rd, read_back}
use Rattle.points.specs.declared.Point.{Point}
use Rattle.points.specs.declared.Frame.{Frame}
use Rattle.points.specs.Positions.{along, position}
use Rattle.points.specs.Finite.{Under}
use Rattle.points.proofs.Sizes.{int_under, negint_under}

-- at most 64 in size
abbrev pub Small : ℤ → Type 0
Small (pos n) = n ≤ 64
Small (negsuc n) = suc n ≤ 64

pub small_float : (z : ℤ) → Small z → T (in_float binary64 z)
unfolding in_float
small_float (pos n) h = true_T _ (le-leb n (2 ^ 53) (le_trans h (lit≤ tt)))
small_float (negsuc n) h = true_T _ (lt-ltb n (2 ^ 53) (le_trans h (lit≤ tt)))

-- the float of a small integer, cast back, is the integer
pub small_exact : (z : ℤ) → Small z → to_signed 63 (of_int binary64 z) ≡ z
small_exact (pos n) h = (positive_back binary64 63 n (small_float (pos n) h) (le_trans (more n h) (lit≤ tt))).1
  where
    more : (n : ℕ) → n ≤ 64 → suc n ≤ 65
    more n h = omega arith
small_exact (negsuc n) h = (negative_back binary64 63 n (small_float (negsuc n) h) (le_trans h (lit≤ tt))).1

pub small-under : (z : ℤ) → Small z → Under (of_int binary64 z) 6
small-under (pos n) h = int_under n 6 (lit≤ tt) h
small-under (negsuc n) h = negint_under n 6 (lit≤ tt) h

small_difference : (a b : ℕ) → a ≤ 64 → b ≤ 64 → Small (pos a -ℤ pos b)
unfolding above under
small_difference a b p q = go (pos a -ℤ pos b) (nat a ⊞ neg (nat b)).is
  where
    go : (z : ℤ) → above z + (0 + b) ≡ under z + (a + 0) → Small z
    go (pos n) e = omega (arith, e)
    go (negsuc n) e = omega (arith, e)

pub record SmallIjk (at : Ijk) : Type 0 where
  pub i : Small at.i
  pub j : Small at.j
  pub k : Small at.k

pub ijk_small : (u v w : ℕ) → u < 32 → v < 32 → w < 32 → SmallIjk (ijk_of u v w)
unfolding ijk_of
ijk_small u v w p q r =
    record {
      i = small_difference w (u + v) (omega arith) (omega arith);
      j = small_difference u v (omega arith) (omega arith);
      k = small_difference 0 w (omega arith) (omega arith);
    }

pub site-small : (at : Ijk) (u v w : ℕ) → at ≡ ijk_of u v w → (u < 32) × (v < 32) × (w < 32) → SmallIjk at
site-small at u v w e h = subst SmallIjk (sym e) (ijk_small u v w h.0 h.1 h.2)

-- ---- what the machine reads back of the three numbers' bits

small-read : (z : ℤ) → Small z → rd z ≡ z
small-read z h = read_back z (low z h)
  where
    low : (z : ℤ) → Small z → mag z < 2 ^ 63
    low (pos n) h = le_trans (more n h) (lit≤ tt)
      where
        more : (n : ℕ) → n ≤ 64 → suc n ≤ 65
        more n h = omega arith
    low (negsuc n) h = le_trans h (lit≤ tt)

pub small_cast : (z : ℤ) → Small z → T (in_float binary64 (rd z))
small_cast z h = subst (λ (y : ℤ). T (in_float binary64 y)) (sym (small-read z h)) (small_float z h)

-- three numbers, each along its axis, are the place
pub place_is : (f : Frame) (at site : Ijk) (x y z : Float) → at ≡ site → SmallIjk at
    → x ≡ along f.origin.x f.step.x (rd at.i) → y ≡ along f.origin.y f.step.y (rd at.j) → z ≡ along f.origin.z f.step.z (rd at.k)
    → ◌≡◌ {A = Point} (record { x = x; y = y; z = z }) (position f site)
unfolding position
place_is f at site x y z e s p q r =
    (λ n. record {
      x = (p ∙ ap (along f.origin.x f.step.x) (small-read at.i s.i)) n;
      y = (q ∙ ap (along f.origin.y f.step.y) (small-read at.j s.j)) n;
      z = (r ∙ ap (along f.origin.z f.step.z) (small-read at.k s.k)) n;
    })
    ∙ ap (position f) e
