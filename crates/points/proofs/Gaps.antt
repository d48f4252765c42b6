-- Two different f64 values differ by enough: each is at most 2 ^ 53 + 1 times their difference; and a quotient by what is not too small is not too large. Assumes nothing.
use Prim.Native.Nat.{ℕ, zero, suc, ◌+◌, ◌-◌, ◌*◌, ◌%◌, ◌^◌, ◌≤◌, ◌<◌}
use native.Mathlib.Nat.{zero-lt-suc, suc-mul, le_trans, le_of_eq, le_of_lt, not-le_of_lt, mul_comm, mul_assoc, mul_left_comm, mul_right_comm, mul-le-mul_right, mul-le-mul_left, le_of_mul-le-mul_right, mul-pos, mul-one, one-mul, zero-mul, mul-lt-mul_of_pos_right, lt_of_mul-lt-mul_right, add-mul}
use native.Mathlib.Omega.{arith}
use mathlib.Core.Path.{◌≡◌, refl, sym, ap, ◌∙◌, subst}
use mathlib.Core.Logic.{inl, inr}
use mathlib.Core.Bool.{Bool, true, false, ◌&&◌, true≢false}
use lib.IntN.{ℤ, pos, negsuc}
use lib.Dec.{eqb-suc-zero, T, ltb, leb, eqb, ltb→lt, leb→le, lit<}
use lib.Pow.{pow-add, pow_pos, pow-lt}
use Rattle.laws.proofs.Ranges.{lt-or}
use lib.Ieee.{Float, nan, inf, fin, Format, binary64, prec, emax, low, up, down, round, neg, div, le, lt, fits}
use lib.Ieee.Digits.{back}
use lib.Ieee.Fits.{down_pos, up_pos, two, two-le_pos}
use lib.Ieee.Exact.{HasValue, round_exact}
use lib.Ieee.Order.{round_mono}
use Rattle.points.specs.Finite.{Under}
use Rattle.points.proofs.Rounding.{neg_round, plus, plus_round}
use Rattle.points.proofs.Sizes.{round_bound, or-le}

-- ---- a value in units of the format's smallest: m * 2 ^ shift of them
pub record Units (f : Format) (m : ℕ) (e : ℤ) : Type 0 where
  pub shift : ℕ
  pub small : m < 2 ^ prec f
  pub is : m * up e * 2 ^ low f ≡ m * 2 ^ shift * down e
  pub top : m * 2 ^ shift < 2 ^ (low f + suc (emax f))

pow_le_back : (i j : ℕ) → 2 ^ i ≤ 2 ^ j → i ≤ j
pow_le_back i j h = elim (lt-or j i) [
  | inr t ↦ t
  | inl t ↦ absurd (not-le_of_lt (pow-lt t) h)
]

-- below the format's end
top_of : (f : Format) (a d P : ℕ) → 0 < d → a * 2 ^ low f ≡ P * d → a < 2 ^ suc (emax f) * d → P < 2 ^ (low f + suc (emax f))
top_of f a d P D e h =
    let l : a * 2 ^ low f < 2 ^ suc (emax f) * d * 2 ^ low f = mul-lt-mul_of_pos_right h (pow_pos (low f)) in
    let r : 2 ^ suc (emax f) * d * 2 ^ low f ≡ 2 ^ (low f + suc (emax f)) * d = mul_right_comm (2 ^ suc (emax f)) d (2 ^ low f) ∙ ap (λ z. z * d) (mul_comm (2 ^ suc (emax f)) (2 ^ low f) ∙ sym (pow-add 2 (low f) (suc (emax f)))) in
    let w : P * d < 2 ^ (low f + suc (emax f)) * d = rw (← e, ← r) l in
    lt_of_mul-lt-mul_right d w

four : (a b c d : Bool) → T (a && b && c && d) → T b × T c × T d
four true true true d t = (tt, tt, t)
four true true false d t = absurd t
four true false c d t = absurd t
four false b c d t = absurd t

pub units_of : (f : Format) (s : Bool) (m : ℕ) (e : ℤ) → T (fits f (fin s m e)) → Units f m e
unfolding fits
units_of f s zero e t = record { shift = 0; small = pow_pos (prec f); top = pow_pos (low f + suc (emax f)); is = simp zero-mul }
units_of f s (suc m) (pos k) t =
    let ts = four (eqb (suc m % 2) 1) (ltb (suc m) (2 ^ prec f)) (leb 1 (2 ^ low f)) (ltb (suc m * 2 ^ k) (2 ^ suc (emax f) * 1)) t in
    let p = ltb→lt (suc m) (2 ^ prec f) ts.0 in
    let g : suc m * 2 ^ k < 2 ^ suc (emax f) * 1 = ltb→lt (suc m * 2 ^ k) (2 ^ suc (emax f) * 1) ts.2 in
    let eq1 : suc m * 2 ^ k * 2 ^ low f ≡ suc m * 2 ^ (k + low f) * 1 = mul_assoc (suc m) (2 ^ k) (2 ^ low f) ∙ ap (λ z. suc m * z) (sym (pow-add 2 k (low f))) ∙ sym (mul-one (suc m * 2 ^ (k + low f))) in
    record {
      shift = k + low f;
      small = p;
      top = top_of f (suc m * 2 ^ k) 1 (suc m * 2 ^ (k + low f)) (lit< tt) eq1 g;
      is = mul_assoc (suc m) (2 ^ k) (2 ^ low f) ∙ ap (λ z. suc m * z) (sym (pow-add 2 k (low f))) ∙ sym (mul-one (suc m * 2 ^ (k + low f)));
    }
units_of f s (suc m) (negsuc k) t =
    let ts = four (eqb (suc m % 2) 1) (ltb (suc m) (2 ^ prec f)) (leb (2 ^ suc k) (2 ^ low f)) (ltb (suc m * 1) (2 ^ suc (emax f) * 2 ^ suc k)) t in
    let p = ltb→lt (suc m) (2 ^ prec f) ts.0 in
    let d : 2 ^ suc k ≤ 2 ^ low f = leb→le (2 ^ suc k) (2 ^ low f) ts.1 in
    let j : suc k ≤ low f = pow_le_back (suc k) (low f) d in
    let g : suc m * 1 < 2 ^ suc (emax f) * 2 ^ suc k = ltb→lt (suc m * 1) (2 ^ suc (emax f) * 2 ^ suc k) ts.2 in
    let eq1 : suc m * 1 * 2 ^ low f ≡ suc m * 2 ^ (low f - suc k) * 2 ^ suc k = ap (λ z. z * 2 ^ low f) (mul-one (suc m)) ∙ ap (λ z. suc m * 2 ^ z) (sym (back (low f) (suc k) j)) ∙ ap (λ z. suc m * z) (pow-add 2 (low f - suc k) (suc k)) ∙ sym (mul_assoc (suc m) (2 ^ (low f - suc k)) (2 ^ suc k)) in
    record {
      shift = low f - suc k;
      small = p;
      top = top_of f (suc m * 1) (2 ^ suc k) (suc m * 2 ^ (low f - suc k)) (pow_pos (suc k)) eq1 g;
      is = eq1;
    }

-- ---- the gap between two different values
-- multiples of g that differ, differ by g
multiples : (g x y : ℕ) → y * g < x * g → y * g + g ≤ x * g
multiples g x y h = elim (lt-or x (suc y)) [
  | inr t ↦ le_trans (le_of_eq (sym (suc-mul y g))) (mul-le-mul_right g t)
  | inl t ↦ absurd (not-le_of_lt h (mul-le-mul_right g (le_of_suc x y t)))
]
  where
    le_of_suc : (x y : ℕ) → x < suc y → x ≤ y
    le_of_suc x y t = omega arith

scaled : (m i j : ℕ) → i ≤ j → m * 2 ^ j ≡ m * 2 ^ (j - i) * 2 ^ i
scaled m i j h = ap (λ z. m * 2 ^ z) (sym (back j i h)) ∙ ap (λ z. m * z) (pow-add 2 (j - i) i) ∙ sym (mul_assoc m (2 ^ (j - i)) (2 ^ i))

-- the larger of two is at most 2 ^ p + 1 times the difference
pub gap_up : (p m i n j : ℕ) → m < 2 ^ p → n < 2 ^ p → n * 2 ^ j < m * 2 ^ i → m * 2 ^ i ≤ (2 ^ p + 1) * (m * 2 ^ i - n * 2 ^ j)
gap_up p m i n j a b h = elim (lt-or j i) [
  | inr t ↦
      let e : n * 2 ^ j ≡ n * 2 ^ (j - i) * 2 ^ i = scaled n i j t in
      let g : n * 2 ^ j + 2 ^ i ≤ m * 2 ^ i = rw e (multiples (2 ^ i) m (n * 2 ^ (j - i)) (rw e at h)) in
      let w : m * 2 ^ i ≤ 2 ^ p * 2 ^ i = mul-le-mul_right (2 ^ i) (le_of_lt a) in
      let v : 2 ^ p * 2 ^ i ≤ 2 ^ p * (m * 2 ^ i - n * 2 ^ j) = mul-le-mul_left (2 ^ p) (part (n * 2 ^ j) (2 ^ i) (m * 2 ^ i) g) in
      more (m * 2 ^ i) (2 ^ p) (m * 2 ^ i - n * 2 ^ j) (le_trans w v)
  | inl t ↦
      let e : m * 2 ^ i ≡ m * 2 ^ (i - j) * 2 ^ j = scaled m j i (le_of_lt t) in
      let g : n * 2 ^ j + 2 ^ j ≤ m * 2 ^ i = rw e (multiples (2 ^ j) (m * 2 ^ (i - j)) n (rw e at h)) in
      let w : n * 2 ^ j ≤ 2 ^ p * 2 ^ j = mul-le-mul_right (2 ^ j) (le_of_lt b) in
      let v : 2 ^ p * 2 ^ j ≤ 2 ^ p * (m * 2 ^ i - n * 2 ^ j) = mul-le-mul_left (2 ^ p) (part (n * 2 ^ j) (2 ^ j) (m * 2 ^ i) g) in
      both (m * 2 ^ i) (n * 2 ^ j) (2 ^ p) (m * 2 ^ i - n * 2 ^ j) (le_trans w v) refl
]
  where
    part : (x g y : ℕ) → x + g ≤ y → g ≤ y - x
    part x g y h = omega arith

    more : (x p d : ℕ) → x ≤ p * d → x ≤ (p + 1) * d
    more x p d h = rw add-mul (omega arith)

    both : (x y p d : ℕ) → y ≤ p * d → d ≡ x - y → x ≤ (p + 1) * d
    both x y p d h e = rw add-mul (omega arith)

-- and so is the smaller
pub gap_down : (p m i n j : ℕ) → m < 2 ^ p → n < 2 ^ p → m * 2 ^ i < n * 2 ^ j → m * 2 ^ i ≤ (2 ^ p + 1) * (n * 2 ^ j - m * 2 ^ i)
gap_down p m i n j a b h = le_trans (le_of_lt h) (gap_up p n j m i b a h)

-- ---- a rounded fraction of at least 2 ^ k units is at least 2 ^ k units
abbrev pub Least : Format → Float → ℕ → Type 0
Least f nan k = ⊥
Least f (inf s) k = 0 < 1
Least f (fin t n d) k = 2 ^ k * down d ≤ n * up d * 2 ^ low f

least_neg : (f : Format) (x : Float) (k : ℕ) → Least f x k → Least f (neg x) k
unfolding neg
least_neg f nan k h = h
least_neg f (inf s) k h = h
least_neg f (fin s m e) k h = h

above : (f : Format) (x y : Float) (k : ℕ) → HasValue x false (2 ^ k) (2 ^ low f) → T (plus y) → T (le x y) → Least f y k
unfolding le lt
above f nan y k h p l = absurd h
above f (inf s) y k h p l = absurd h
above f (fin true m e) y k h p l = absurd (true≢false h.0)
above f (fin false m e) nan k h p l = absurd p
above f (fin false m e) (inf true) k h p l = absurd p
above f (fin false m e) (inf false) k h p l = lit< tt
above f (fin false m e) (fin true n d) k h p l = absurd p
above f (fin false m e) (fin false n d) k h p l =
    let a : m * up e * down d ≤ n * up d * down e = or-le (m * up e * down d) (n * up d * down e) true l in
    let b : m * up e * down d * 2 ^ low f ≤ n * up d * down e * 2 ^ low f = mul-le-mul_right (2 ^ low f) a in
    let c : 2 ^ k * down d * down e ≡ m * up e * down d * 2 ^ low f = mul_right_comm (2 ^ k) (down d) (down e) ∙ ap (λ z. z * down d) (sym h.1) ∙ mul_right_comm (m * up e) (2 ^ low f) (down d) in
    le_of_mul-le-mul_right (le_trans (le_of_eq c) (le_trans b (le_of_eq (mul_right_comm (n * up d) (down e) (2 ^ low f))))) (down_pos e)

unit_power : (f : Format) (k : ℕ) → k < low f + suc (emax f) → HasValue (round f false (2 ^ k) (2 ^ low f)) false (2 ^ k) (2 ^ low f)
unit_power f k h =
    round_exact f false (2 ^ k) (2 ^ low f) 1 k (pow_pos (low f)) (one-lt f)
    (subst (λ (x : ℕ). x < 2 ^ (low f + suc (emax f))) (sym (one-mul (2 ^ k))) (pow-lt h))
    (ap (λ z. z * 2 ^ low f) (sym (one-mul (2 ^ k))))
  where
    one-lt : (f : Format) → 1 < 2 ^ prec f
    one-lt f = pow-lt {i = 0} {j = prec f} (two-le_pos (prec f) (two f))

least-plus : (f : Format) (a c D k : ℕ) → 0 < c → D * c ≤ a * 2 ^ low f → 2 ^ k ≤ D → k < low f + suc (emax f) → Least f (round f false a c) k
least-plus f a c D k C h g w =
    above f (round f false (2 ^ k) (2 ^ low f)) (round f false a c) k (unit_power f k w) (plus_round f a c)
    (round_mono f (2 ^ k) (2 ^ low f) a c (pow_pos (low f)) C (le_trans (mul-le-mul_right c g) h))

pub round_least : (f : Format) (s : Bool) (a c D k : ℕ) → 0 < c → D * c ≤ a * 2 ^ low f → 2 ^ k ≤ D → k < low f + suc (emax f) → Least f (round f s a c) k
round_least f false a c D k C h g w = least-plus f a c D k C h g w
round_least f true a c D k C h g w =
    subst (λ (x : Float). Least f x k) (neg_round f false a c) (least_neg f (round f false a c) k (least-plus f a c D k C h g w))

-- ---- the quotient
chain : (x d e P L U j k : ℕ) → x * L ≡ P * e → P ≤ 2 ^ j * 2 ^ k → 2 ^ k * d ≤ U * L → x * d * L ≤ 2 ^ j * (U * e) * L
chain x d e P L U j k h g w =
    let a : x * d * L ≡ P * e * d = mul_right_comm x d L ∙ ap (λ z. z * d) h in
    let b : P * e * d ≤ 2 ^ j * 2 ^ k * e * d = mul-le-mul_right d (mul-le-mul_right e g) in
    let c : 2 ^ j * 2 ^ k * e * d ≡ 2 ^ j * (2 ^ k * d) * e = mul_right_comm (2 ^ j * 2 ^ k) e d ∙ ap (λ z. z * e) (mul_assoc (2 ^ j) (2 ^ k) d) in
    let q : 2 ^ j * (2 ^ k * d) * e ≤ 2 ^ j * (U * L) * e = mul-le-mul_right e (mul-le-mul_left (2 ^ j) w) in
    let r : 2 ^ j * (U * L) * e ≡ 2 ^ j * (U * e) * L = simp (mul_assoc, mul_comm, mul_left_comm) in
    le_trans (le_of_eq a) (le_trans b (le_trans (le_of_eq c) (le_trans q (le_of_eq r))))

pub fraction_under : (s : Bool) (m : ℕ) (e : ℤ) (y : Float) (j k : ℕ) (u : Units binary64 m e) → j ≤ 1023 → m * 2 ^ u.shift ≤ 2 ^ j * 2 ^ k → Least binary64 y k → Under (div binary64 (fin s m e) y) j
unfolding div
fraction_under s m e nan j k u J h l = absurd l
fraction_under s m e (inf t) j k u J h l = omega arith
fraction_under s m e (fin t zero d) j k u J h l = absurd (none (2 ^ k * down d) (up d) (2 ^ low binary64) (mul-pos (pow_pos k) (down_pos d)) l)
  where
    none : (a b c : ℕ) → 0 < a → a ≤ 0 * b * c → ⊥
    none a b c h l = let z : 0 * b * c ≡ 0 = simp zero-mul in omega (arith, z)
fraction_under s m e (fin t (suc n) d) j k u J h l =
    rw (eqb-suc-zero n)
    (round_bound _ (m * up e * down d) (suc n * up d * down e) j (mul-pos (mul-pos (zero-lt-suc n) (up_pos d)) (down_pos e)) J
    (le_of_mul-le-mul_right (chain (m * up e) (down d) (down e) (m * 2 ^ u.shift) (2 ^ low binary64) (suc n * up d) j k u.is h l) (pow_pos (low binary64))))
