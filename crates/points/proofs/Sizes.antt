-- How large a result can be, each operation's from its operands: `Under x k` says that x is finite and at most 2 ^ k in size. Assumes nothing.
use Prim.Native.Nat.{ℕ, suc, ◌+◌, ◌-◌, ◌*◌, ◌^◌, ◌≤◌, ◌<◌}
use native.Mathlib.Nat.{le_trans, le_of_eq, mul_comm, mul_assoc, mul_right_comm, mul-mul-mul_comm, mul-le-mul, mul-le-mul_right, le_of_mul-le-mul_right, mul-pos, mul-one, one-mul, pow-suc}
use native.Mathlib.Omega.{arith}
use mathlib.Core.Path.{◌≡◌, refl, sym, ap, ◌∙◌, subst}
use mathlib.Core.Bool.{Bool, true, false, ◌&&◌, ◌||◌, beq, cond, true≢false}
use lib.IntN.{pos, negsuc}
use lib.Dec.{T, ltb, eqb, ltb→lt, eqb→eq, lit<}
use lib.Pow.{pow-add, pow_mono, pow-lt}
use lib.Ieee.{Float, nan, inf, fin, binary64, low, up, down, round, sum, neg, add, sub, mul, le, lt, of_int}
use lib.Ieee.Fits.{down_pos}
use lib.Ieee.Exact.{HasValue, round_exact}
use lib.Ieee.Order.{round_mono}
use Rattle.samples.specs.Sides.{finite}
use Rattle.points.specs.Finite.{Under}
use Rattle.points.proofs.Rounding.{neg_round, plus, plus_round}

pub under_neg : (x : Float) (k : ℕ) → Under x k → Under (neg x) k
unfolding neg
under_neg nan k h = h
under_neg (inf s) k h = h
under_neg (fin s m e) k h = h

pub under_more : (x : Float) (j k : ℕ) → j ≤ k → Under x j → Under x k
under_more nan j k g h = h
under_more (inf s) j k g h = h
under_more (fin s m e) j k g h = le_trans h (mul-le-mul_right (down e) (pow_mono g))

-- ---- what lies below a whole number
pub or-le : (a b : ℕ) (z : Bool) → T (ltb a b || (eqb a b && z)) → a ≤ b
or-le a b z t = go (ltb a b) (eqb a b) (ltb→lt a b) (eqb→eq a b) t
  where
    go : (p q : Bool) → (T p → a < b) → (T q → a ≡ b) → T (p || (q && z)) → a ≤ b
    go true q f g t = let h = f tt in omega arith
    go false true f g t = let h = g tt in omega arith
    go false false f g t = absurd t

below-whole : (x y : Float) (k : ℕ) → T (plus x) → HasValue y false (2 ^ k) 1 → T (le x y) → Under x k
unfolding le lt
below-whole nan y k p h l = absurd p
below-whole (inf true) y k p h l = absurd p
below-whole (inf false) nan k p h l = absurd h
below-whole (inf false) (inf t) k p h l = absurd h
below-whole (inf false) (fin t n d) k p h l = absurd l
below-whole (fin true m e) y k p h l = absurd p
below-whole (fin false m e) nan k p h l = absurd h
below-whole (fin false m e) (inf t) k p h l = absurd h
below-whole (fin false m e) (fin true n d) k p h l = absurd (true≢false h.0)
below-whole (fin false m e) (fin false n d) k p h l =
    let a : m * up e * down d ≤ n * up d * down e = or-le (m * up e * down d) (n * up d * down e) true l in
    let b : n * up d ≡ 2 ^ k * down d = sym (mul-one (n * up d)) ∙ h.1 in
    let c : n * up d * down e ≡ 2 ^ k * down e * down d = rw b (mul_right_comm (2 ^ k) (down d) (down e)) in
    le_of_mul-le-mul_right (le_trans a (le_of_eq c)) (down_pos d)

-- a power of two is a value
power : (k : ℕ) → k ≤ 1023 → HasValue (round binary64 false (2 ^ k) 1) false (2 ^ k) 1
power k h =
    round_exact binary64 false (2 ^ k) 1 1 (low binary64 + k) (lit< tt) (pow-lt {i = 0} {j = 53} (lit< tt))
    (subst (λ (x : ℕ). x < 2 ^ (low binary64 + 1024)) (sym (one-mul (2 ^ (low binary64 + k)))) (pow-lt (more h)))
    (mul_comm (2 ^ k) (2 ^ low binary64) ∙ sym (pow-add 2 (low binary64) k) ∙ sym (one-mul _) ∙ sym (mul-one _))
  where
    more : k ≤ 1023 → low binary64 + k < low binary64 + 1024
    more h = omega arith

bound_plus : (a c k : ℕ) → 0 < c → k ≤ 1023 → a ≤ 2 ^ k * c → Under (round binary64 false a c) k
bound_plus a c k C K h =
    below-whole (round binary64 false a c) (round binary64 false (2 ^ k) 1) k (plus_round binary64 a c) (power k K)
    (round_mono binary64 a c (2 ^ k) 1 C (lit< tt) (le_trans (le_of_eq (mul-one a)) h))

pub round_bound : (s : Bool) (a c k : ℕ) → 0 < c → k ≤ 1023 → a ≤ 2 ^ k * c → Under (round binary64 s a c) k
round_bound false a c k C K h = bound_plus a c k C K h
round_bound true a c k C K h =
    subst (λ (x : Float). Under x k) (neg_round binary64 false a c) (under_neg (round binary64 false a c) k (bound_plus a c k C K h))

-- ---- the operations
twice : (a b p c q : ℕ) → a ≤ p * c → b ≤ p * c → q ≡ p * 2 → a + b ≤ q * c
twice a b p c q h g e =
    let z : q * c ≡ p * c * 2 = rw e (mul_right_comm p 2 c) in
    omega (arith, z)

sum_bound : (s t : Bool) (a b c k : ℕ) → 0 < c → suc k ≤ 1023 → a ≤ 2 ^ k * c → b ≤ 2 ^ k * c → Under (sum binary64 s a t b c) (suc k)
unfolding sum
sum_bound s t a b c k C K h g =
    let w : a + b ≤ 2 ^ suc k * c = twice a b (2 ^ k) c (2 ^ suc k) h g (pow-suc 2 k) in
    under-cond (beq s t) (round binary64 s (a + b) c) (cond (ltb a b) (round binary64 t (b - a) c) (round binary64 (s && ltb b a) (a - b) c)) (suc k) (round_bound s (a + b) c (suc k) C K w)
    (under-cond (ltb a b) (round binary64 t (b - a) c) (round binary64 (s && ltb b a) (a - b) c) (suc k) (round_bound t (b - a) c (suc k) C K (omega arith)) (round_bound (s && ltb b a) (a - b) c (suc k) C K (omega arith)))
  where
    under-cond : (b : Bool) (x y : Float) (k : ℕ) → Under x k → Under y k → Under (cond b x y) k
    under-cond true x y k p q = p
    under-cond false x y k p q = q

pub add-under : (x y : Float) (k : ℕ) → suc k ≤ 1023 → Under x k → Under y k → Under (add binary64 x y) (suc k)
unfolding add
add-under nan y k K h g = absurd h
add-under (inf s) y k K h g = absurd h
add-under (fin s m e) nan k K h g = absurd g
add-under (fin s m e) (inf t) k K h g = absurd g
add-under (fin s m e) (fin t n d) k K h g =
    sum_bound s t (m * up e * down d) (n * up d * down e) (down e * down d) k (mul-pos (down_pos e) (down_pos d)) K
    (le_trans (mul-le-mul_right (down d) h) (le_of_eq (mul_assoc (2 ^ k) (down e) (down d))))
    (le_trans (mul-le-mul_right (down e) g) (le_of_eq (mul_assoc (2 ^ k) (down d) (down e) ∙ ap (λ z. 2 ^ k * z) (mul_comm (down d) (down e)))))

pub sub-under : (x y : Float) (k : ℕ) → suc k ≤ 1023 → Under x k → Under y k → Under (sub binary64 x y) (suc k)
unfolding sub
sub-under x y k K h g = add-under x (neg y) k K h (under_neg y k g)

pub mul-under : (x y : Float) (j k : ℕ) → j + k ≤ 1023 → Under x j → Under y k → Under (mul binary64 x y) (j + k)
unfolding mul
mul-under nan y j k K h g = absurd h
mul-under (inf s) y j k K h g = absurd h
mul-under (fin s m e) nan j k K h g = absurd g
mul-under (fin s m e) (inf t) j k K h g = absurd g
mul-under (fin s m e) (fin t n d) j k K h g =
    round_bound _ (m * up e * (n * up d)) (down e * down d) (j + k) (mul-pos (down_pos e) (down_pos d)) K
    (le_trans (mul-le-mul h g) (le_of_eq (mul-mul-mul_comm (2 ^ j) (down e) (2 ^ k) (down d) ∙ ap (λ z. z * (down e * down d)) (sym (pow-add 2 j k)))))

pub int_under : (n k : ℕ) → k ≤ 1023 → n ≤ 2 ^ k → Under (of_int binary64 (pos n)) k
unfolding of_int
int_under n k K h = round_bound false n 1 k (lit< tt) K (le_trans h (le_of_eq (sym (mul-one (2 ^ k)))))

pub negint_under : (n k : ℕ) → k ≤ 1023 → suc n ≤ 2 ^ k → Under (of_int binary64 (negsuc n)) k
unfolding of_int
negint_under n k K h = round_bound true (suc n) 1 k (lit< tt) K (le_trans h (le_of_eq (sym (mul-one (2 ^ k)))))

pub under-finite : (x : Float) (k : ℕ) → Under x k → finite x ≡ true
unfolding finite
under-finite nan k h = absurd h
under-finite (inf s) k h = absurd h
under-finite (fin s m e) k h = refl
