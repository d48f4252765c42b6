-- The order of values with signs: rounding keeps it, a value that fits is its own rounding, a sum is one rounding and grows with what is added. Assumes nothing.
use Prim.Native.Nat.{ℕ, ◌+◌, ◌-◌, ◌*◌, ◌^◌, ◌≤◌, ◌<◌}
use native.Mathlib.Nat.{add-mul, mul_comm, mul_assoc, mul_right_comm, mul-le-mul_right, mul-one, zero-mul, mul-pos, eq_of_mul-eq-mul_right}
use native.Mathlib.Omega.{arith}
use mathlib.Core.Path.{◌≡◌, refl, sym, ap, ◌∙◌}
use mathlib.Core.Bool.{Bool, true, false, not, false≢true}
use lib.IntN.{ℤ, pos}
use lib.Dec.{T, ltb, lit<}
use lib.Ieee.{Float, nan, inf, fin, Format, binary32, binary64, low, up, down, round, sum, neg, add, lt, eq, le, fits, of_bits, to_bits}
use lib.Ieee.Fits.{down_pos, round-fits}
use lib.Ieee.Bits.{of_bits-to_bits}
use lib.Ieee.Exact.{HasValue, round_exact}
use lib.Ieee.Nearest.{div_same}
use lib.Ieee.Order.{round_mono}
use lib.Ieee.Scale.{round_same}
use borrow.Author.Tests.{ltb-true, ltb-false}
use Rattle.laws.proofs.Floats.{gain, debt, gain-times, debt-times, Most, le-most, most-le}
use Rattle.samples.specs.Sides.{finite}
use Rattle.points.proofs.Rounding.{neg_round, plus, plus_round}
use Rattle.points.proofs.Gaps.{units_of}

-- ---- the order turned round
most_neg : (s : Bool) (x e : ℕ) (t : Bool) (y d : ℕ) → Most s x e t y d → Most (not t) y d (not s) x e
most_neg false x e false y d h = omega arith
most_neg false x e true y d h = omega arith
most_neg true x e false y d h = omega arith
most_neg true x e true y d h = omega arith

pub le_neg : (x y : Float) → T (le x y) → T (le (neg y) (neg x))
unfolding neg le lt eq
le_neg nan y h = absurd h
le_neg (inf s) nan h = absurd h
le_neg (inf false) (inf false) h = tt
le_neg (inf false) (inf true) h = absurd h
le_neg (inf true) (inf false) h = tt
le_neg (inf true) (inf true) h = tt
le_neg (inf false) (fin t n d) h = absurd h
le_neg (inf true) (fin t n d) h = tt
le_neg (fin s m e) nan h = absurd h
le_neg (fin s m e) (inf false) h = tt
le_neg (fin s m e) (inf true) h = absurd h
le_neg (fin s m e) (fin t n d) h = most-le (not t) n d (not s) m e (most_neg s (m * up e) (down e) t (n * up d) (down d) (le-most s m e t n d h))

-- below zero and above it
neg_le : (x y : Float) → T (plus x) → T (plus y) → T (le (neg x) y)
unfolding neg le lt eq
neg_le nan y p q = absurd p
neg_le (inf true) y p q = absurd p
neg_le (inf false) nan p q = absurd q
neg_le (inf false) (inf true) p q = absurd q
neg_le (inf false) (inf false) p q = tt
neg_le (inf false) (fin t n d) p q = tt
neg_le (fin true m e) y p q = absurd p
neg_le (fin false m e) nan p q = absurd q
neg_le (fin false m e) (inf true) p q = absurd q
neg_le (fin false m e) (inf false) p q = tt
neg_le (fin false m e) (fin true n d) p q = absurd q
neg_le (fin false m e) (fin false n d) p q = most-le true m e false n d (omega arith)

-- ---- rounding keeps the order
pub round_zero : (f : Format) (s : Bool) → round f s 0 1 ≡ fin s 0 (pos 0)
unfolding round
round_zero binary32 s = refl
round_zero binary64 s = refl

zero_of : (x d : ℕ) → 0 < d → x * d ≡ 0 → x ≡ 0
zero_of x d D h = eq_of_mul-eq-mul_right d D x 0 (h ∙ sym (zero-mul d))

round_nought : (f : Format) (s : Bool) (n c : ℕ) → 0 < c → n ≡ 0 → round f s n c ≡ fin s 0 (pos 0)
round_nought f s n c C z = round_same f s n c 0 1 C (lit< tt) (mul-one n ∙ z ∙ sym (zero-mul c)) ∙ round_zero f s

pub round_order : (f : Format) (s : Bool) (n c : ℕ) (t : Bool) (m d : ℕ) → 0 < c → 0 < d → Most s n c t m d → T (le (round f s n c) (round f t m d))
round_order f false n c false m d C D h = round_mono f n c m d C D (omega arith)
round_order f true n c true m d C D h =
    rw (← neg_round f false n c, ← neg_round f false m d) (le_neg (round f false m d) (round f false n c) (round_mono f m d n c D C (omega arith)))
round_order f true n c false m d C D h =
    rw (← neg_round f false n c) (neg_le (round f false n c) (round f false m d) (plus_round f n c) (plus_round f m d))
round_order f false n c true m d C D h =
    rw (round_nought f false n c C (zero_of n d D (omega arith)), round_nought f true m d D (zero_of m c C (omega arith)))
    (most-le false 0 (pos 0) true 0 (pos 0) (omega arith))

-- ---- a value that fits is its own rounding
-- the pattern goes by the value alone, so two values that fit and are equal are one
same_bits : (f : Format) (t : Bool) (n : ℕ) (d : ℤ) (s : Bool) (m : ℕ) (e : ℤ) → t ≡ s → n * up d * down e ≡ m * up e * down d → to_bits f (fin t n d) ≡ to_bits f (fin s m e)
unfolding to_bits
same_bits f t n d s m e p h =
    let l = 2 ^ low f in
    let x : n * up d * l * down e ≡ m * up e * l * down d = mul_right_comm (n * up d) l (down e) ∙ ap (λ z. z * l) h ∙ mul_right_comm (m * up e) (down d) l in
    rw (p, div_same (n * up d * l) (down d) (m * up e * l) (down e) (down_pos d) (down_pos e) x)

same-value : (f : Format) (x : Float) (s : Bool) (m : ℕ) (e : ℤ) → T (fits f x) → T (fits f (fin s m e)) → HasValue x s (m * up e) (down e) → x ≡ fin s m e
same-value f nan s m e a b h = absurd h
same-value f (inf t) s m e a b h = absurd h
same-value f (fin t n d) s m e a b h = sym (of_bits-to_bits f (fin t n d) a) ∙ ap (of_bits f) (same_bits f t n d s m e h.0 h.1) ∙ of_bits-to_bits f (fin s m e) b

pub self_round : (f : Format) (s : Bool) (m : ℕ) (e : ℤ) → T (fits f (fin s m e)) → round f s (m * up e) (down e) ≡ fin s m e
self_round f s m e h =
    let u = units_of f s m e h in
    same-value f (round f s (m * up e) (down e)) s m e (round-fits f s (m * up e) (down e)) h
    (round_exact f s (m * up e) (down e) m u.shift (down_pos e) u.small u.top u.is)

-- ---- a sum is one rounding
record Summed (f : Format) (s : Bool) (a : ℕ) (t : Bool) (b c : ℕ) : Type 0 where
  pub sign : Bool
  pub all : ℕ
  pub is : sum f s a t b c ≡ round f sign all c
  pub even : gain sign all + (debt s a + debt t b) ≡ debt sign all + (gain s a + gain t b)

summed : (f : Format) (s : Bool) (a : ℕ) (t : Bool) (b c : ℕ) → Summed f s a t b c
unfolding sum
summed f false a false b c = record { sign = false; all = a + b; is = refl; even = omega arith }
summed f true a true b c = record { sign = true; all = a + b; is = refl; even = omega arith }
summed f false a true b c = go (ltb a b) refl
  where
    go : (p : Bool) → ltb a b ≡ p → Summed f false a true b c
    go true h = let l = ltb-true a b h in record { sign = true; all = b - a; is = rw h; even = omega arith }
    go false h = let l = ltb-false a b h in record { sign = false; all = a - b; is = rw h; even = omega arith }
summed f true a false b c = go (ltb a b) (ltb b a) refl refl
  where
    go : (p q : Bool) → ltb a b ≡ p → ltb b a ≡ q → Summed f true a false b c
    go true q h g = let l = ltb-true a b h in record { sign = false; all = b - a; is = rw h; even = omega arith }
    go false true h g = let l = ltb-true b a g in record { sign = true; all = a - b; is = rw (h, g); even = omega arith }
    go false false h g = let l = ltb-false a b h in let k = ltb-false b a g in record { sign = false; all = a - b; is = rw (h, g); even = omega arith }

-- of two values X / E and Y / D, their parts apart
record Added (f : Format) (s : Bool) (m : ℕ) (e : ℤ) (t : Bool) (n : ℕ) (d : ℤ) : Type 0 where
  pub sign : Bool
  pub all : ℕ
  pub is : add f (fin s m e) (fin t n d) ≡ round f sign all (down e * down d)
  pub even : gain sign all + (debt s (m * up e) * down d + debt t (n * up d) * down e) ≡ debt sign all + (gain s (m * up e) * down d + gain t (n * up d) * down e)

added : (f : Format) (s : Bool) (m : ℕ) (e : ℤ) (t : Bool) (n : ℕ) (d : ℤ) → Added f s m e t n d
unfolding add
added f s m e t n d =
    let r = summed f s (m * up e * down d) t (n * up d * down e) (down e * down d) in
    record {
      sign = r.sign;
      all = r.all;
      is = r.is;
      even = rw (← gain-times s (m * up e) (down d), ← gain-times t (n * up d) (down e), ← debt-times s (m * up e) (down d), ← debt-times t (n * up d) (down e)) r.even;
    }

-- ---- and grows with what is added
spread : (x y z : ℕ) → x * (y * z) ≡ x * z * y
spread x y z = ap (λ w. x * w) (mul_comm y z) ∙ sym (mul_assoc x z y)

-- one denominator: the first sum by D', the second by D, the order by E
module _ (g h g' h' P N Q M Q' M' E D D' : ℕ) (first : g + (N * D + M * E) ≡ h + (P * D + Q * E)) (second : g' + (N * D' + M' * E) ≡ h' + (P * D' + Q' * E)) (order : Q * D' + M' * D ≤ Q' * D + M * D') where
  more : g * (E * D') + h' * (E * D) ≤ g' * (E * D) + h * (E * D')
  more =
      let a : g * D' + (N * D * D' + M * E * D') ≡ h * D' + (P * D * D' + Q * E * D') = simp add-mul at (ap (λ z. z * D') first) in
      let b : g' * D + (N * D' * D + M' * E * D) ≡ h' * D + (P * D' * D + Q' * E * D) = simp add-mul at (ap (λ z. z * D) second) in
      let c : Q * D' * E + M' * D * E ≤ Q' * D * E + M * D' * E = simp add-mul at (mul-le-mul_right E order) in
      let w : g * D' + h' * D ≤ g' * D + h * D' = omega (arith, mul_right_comm N D D', mul_right_comm P D D', mul_right_comm M E D', mul_right_comm Q E D', mul_right_comm M' E D, mul_right_comm Q' E D) in
      let v : g * D' * E + h' * D * E ≤ g' * D * E + h * D' * E = simp add-mul at (mul-le-mul_right E w) in
      rw (spread g E D', spread h' E D, spread g' E D, spread h E D') v

add-more : (f : Format) (s : Bool) (m : ℕ) (e : ℤ) (t : Bool) (n : ℕ) (d : ℤ) (t' : Bool) (n' : ℕ) (d' : ℤ) → T (le (fin t n d) (fin t' n' d'))
    → T (le (add f (fin s m e) (fin t n d)) (add f (fin s m e) (fin t' n' d')))
add-more f s m e t n d t' n' d' l =
    let r = added f s m e t n d in
    let q = added f s m e t' n' d' in
    rw (r.is, q.is)
    (round_order f r.sign r.all (down e * down d) q.sign q.all (down e * down d') (mul-pos (down_pos e) (down_pos d)) (mul-pos (down_pos e) (down_pos d'))
    (more (gain r.sign r.all) (debt r.sign r.all) (gain q.sign q.all) (debt q.sign q.all) (gain s (m * up e)) (debt s (m * up e)) (gain t (n * up d)) (debt t (n * up d)) (gain t' (n' * up d')) (debt t' (n' * up d')) (down e) (down d) (down d')
    r.even q.even (le-most t n d t' n' d' l)))

pub add_mono : (f : Format) (x y z : Float) → finite x ≡ true → finite y ≡ true → finite z ≡ true → T (le y z) → T (le (add f x y) (add f x z))
unfolding finite
add_mono f nan y z a b c l = absurd (false≢true a)
add_mono f (inf s) y z a b c l = absurd (false≢true a)
add_mono f (fin s m e) nan z a b c l = absurd (false≢true b)
add_mono f (fin s m e) (inf t) z a b c l = absurd (false≢true b)
add_mono f (fin s m e) (fin t n d) nan a b c l = absurd (false≢true c)
add_mono f (fin s m e) (fin t n d) (inf t') a b c l = absurd (false≢true c)
add_mono f (fin s m e) (fin t n d) (fin t' n' d') a b c l = add-more f s m e t n d t' n' d' l

-- ---- what is not negative makes a sum no smaller, what is not positive no larger
over : (g h P N Q M E D : ℕ) → g + (N * D + M * E) ≡ h + (P * D + Q * E) → M ≤ Q → P * (E * D) + h * E ≤ g * E + N * (E * D)
over g h P N Q M E D first order =
    let c : M * E ≤ Q * E = mul-le-mul_right E order in
    let w : P * D + h ≤ g + N * D = omega arith in
    let v : P * D * E + h * E ≤ g * E + N * D * E = simp add-mul at (mul-le-mul_right E w) in
    rw (spread P E D, spread N E D) v

pub add-above : (f : Format) (x w : Float) → T (fits f x) → finite x ≡ true → finite w ≡ true → T (le (fin false 0 (pos 0)) w) → T (le x (add f x w))
unfolding finite
add-above f nan w F a b l = absurd (false≢true a)
add-above f (inf s) w F a b l = absurd (false≢true a)
add-above f (fin s m e) nan F a b l = absurd (false≢true b)
add-above f (fin s m e) (inf t) F a b l = absurd (false≢true b)
add-above f (fin s m e) (fin t n d) F a b l =
    let r = added f s m e t n d in
    let q = le-most false 0 (pos 0) t n d l in
    let v : Most s (m * up e) (down e) r.sign r.all (down e * down d) =
    over (gain r.sign r.all) (debt r.sign r.all) (gain s (m * up e)) (debt s (m * up e)) (gain t (n * up d)) (debt t (n * up d)) (down e) (down d) r.even (omega arith) in
    rw r.is (rw (self_round f s m e F) at (round_order f s (m * up e) (down e) r.sign r.all (down e * down d) (down_pos e) (mul-pos (down_pos e) (down_pos d)) v))

pub add-below : (f : Format) (x w : Float) → T (fits f x) → finite x ≡ true → finite w ≡ true → T (le w (fin false 0 (pos 0))) → T (le (add f x w) x)
unfolding finite
add-below f nan w F a b l = absurd (false≢true a)
add-below f (inf s) w F a b l = absurd (false≢true a)
add-below f (fin s m e) nan F a b l = absurd (false≢true b)
add-below f (fin s m e) (inf t) F a b l = absurd (false≢true b)
add-below f (fin s m e) (fin t n d) F a b l =
    let r = added f s m e t n d in
    let q = le-most t n d false 0 (pos 0) l in
    let v : debt s (m * up e) * (down e * down d) + gain r.sign r.all * down e ≤ debt r.sign r.all * down e + gain s (m * up e) * (down e * down d) =
    over (debt r.sign r.all) (gain r.sign r.all) (debt s (m * up e)) (gain s (m * up e)) (debt t (n * up d)) (gain t (n * up d)) (down e) (down d) (sym r.even) (omega arith) in
    rw r.is (rw (self_round f s m e F) at (round_order f r.sign r.all (down e * down d) s (m * up e) (down e) (mul-pos (down_pos e) (down_pos d)) (down_pos e) (omega arith)))
