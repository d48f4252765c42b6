-- What `whole_of` means: of a finite float with the size n / d it is the one whole number that is no further than a half from it, and even where it is just a half.
-- Assumes nothing.
use Rattle.std.proofs.Common.{◌≡◌, ℕ, zero, suc, ◌+◌, ◌-◌, ◌*◌, ◌/◌, ◌%◌, ◌<◌, ◌≤◌, Bool, not, T, ℤ, refl, ap, ⊎_elim, mod-lt, div-add-mod', arith, eqb→eq, leb→le}
use mathlib.Core.Option.{some}
use Prim.Native.Nat.{compare, Ordering}
use lib.Dec.{is_le, compare_is_eq, nleb→lt, eqb_refl}
use lib.Ieee.{fin, up, down, nearest}
use lib.Ieee.Nearest.{closest}
use lib.Ieee.Fits.{down_pos}
use Rattle.laws.proofs.Ranges.{lt-or}
use Rattle.laws.specs.Ints.{signed}
use Rattle.units.specs.Whole.{whole_of, Nearest}

-- ---- it is

module _ (n d : ℕ) (D : 0 < d) where
  abbrev q : ℕ
  q = n / d

  abbrev r : ℕ
  r = n % d

  whole : q * d + r ≡ n
  whole = div-add-mod' n d

  below : r * 2 < d → Nearest n d q
  below h = record {
    low = omega (arith, whole);
    high = omega (arith, whole);
    tie_low = λ e. absurd (omega (arith, whole, e));
    tie_high = λ e. absurd (omega (arith, whole, e));
  }

  above : d < r * 2 → Nearest n d (suc q)
  above h = record {
    low = omega (arith, whole, mod-lt n D);
    high = omega (arith, whole, mod-lt n D);
    tie_low = λ e. absurd (omega (arith, whole, e, mod-lt n D));
    tie_high = λ e. absurd (omega (arith, whole, e, mod-lt n D));
  }

  half : r * 2 ≡ d → Nearest n d (q + q % 2)
  half h = go (q % 2) refl (omega arith)
    where
      even : (q + q % 2) % 2 ≡ 0
      even = omega arith

      go : (e : ℕ) → q % 2 ≡ e → e < 2 → Nearest n d (q + q % 2)
      go zero f l =
          let z : (q + q % 2) * d ≡ q * d = ap (λ (k : ℕ). k * d) (omega (arith, f)) in
          record { low = omega (arith, whole, z); high = omega (arith, whole, z); tie_low = λ e. even; tie_high = λ e. even }
      go (suc zero) f l =
          let k : q + q % 2 ≡ suc q = omega (arith, f) in
          let z : (q + q % 2) * d ≡ suc q * d = ap (λ (k : ℕ). k * d) k in
          record { low = omega (arith, whole, z); high = omega (arith, whole, z); tie_low = λ e. even; tie_high = λ e. even }
      go (suc (suc e)) f l = absurd (omega arith)

  by : (o : Ordering) → (T (is_le o) → r * 2 ≤ d) → (T (not (is_le o)) → d < r * 2) → (T (compare_is_eq o) → r * 2 ≡ d) → (r * 2 ≡ d → T (compare_is_eq o)) → Nearest n d (nearest q o)
  by Ordering.lt l g e f = below (strict (l tt) f)
    where
      strict : r * 2 ≤ d → (r * 2 ≡ d → ⊥) → r * 2 < d
      strict a b = omega (arith, a, b)
  by Ordering.eq l g e f = half (e tt)
  by Ordering.gt l g e f = above (g tt)

  pub closest_nearest : Nearest n d (closest n d)
  closest_nearest = by (compare (r * 2) d) (leb→le (r * 2) d) (nleb→lt (r * 2) d) (eqb→eq (r * 2) d) (λ (e : r * 2 ≡ d). rw e (eqb_refl d))

  -- ---- and no other number is

  apart : (b k : ℕ) → Nearest n d b → Nearest n d (suc (b + k)) → ⊥
  apart b zero x y =
      let t : 2 * n ≡ 2 * (b * d) + d = omega (arith, x.low, y.high) in
      let u : 2 * (suc (b + 0) * d) ≡ 2 * n + d = omega (arith, t) in
      omega (arith, x.tie_low t, y.tie_high u)
  apart b (suc k) x y = omega (arith, x.low, y.high)

  pub nearest_only : (b c : ℕ) → Nearest n d b → Nearest n d c → b ≡ c
  nearest_only b c x y = ⊎_elim (λ l. absurd (up b c l x y)) (λ g. ⊎_elim (λ l. absurd (up c b l y x)) (λ h. omega arith) (lt-or c b)) (lt-or b c)
    where
      up : (b c : ℕ) → b < c → Nearest n d b → Nearest n d c → ⊥
      up b c l x y = let e : c ≡ suc (b + (c - suc b)) = omega arith in apart b (c - suc b) x (rw e at y)

-- THE WHOLE NUMBER OF A FINITE FLOAT
pub whole_nearest : (s : Bool) (m : ℕ) (e : ℤ) → (c : ℕ) × (whole_of (fin s m e) ≡ some (signed s c)) × Nearest (m * up e) (down e) c
unfolding whole_of
whole_nearest s m e = (closest (m * up e) (down e), refl, closest_nearest (m * up e) (down e) (down_pos e))
