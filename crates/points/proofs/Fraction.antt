-- The free fraction p / (p - q) is finite where p and q are finite and differ: at most 2 ^ 55 in size. So it is no NaN, and the held one is at most 1. Assumes nothing.
use Prim.Native.Nat.{ℕ, zero, suc, ◌+◌, ◌-◌, ◌*◌, ◌^◌, ◌≤◌, ◌<◌, zero-le}
use native.Mathlib.Nat.{le_trans, le_of_eq, le_of_lt, lt_of_lt_of_le, lt_of_le_of_lt, lt_irrefl, mul_comm, mul_assoc, mul_right_comm, mul-le-mul_right, mul-le-mul_left, mul-lt-mul_of_pos_right, lt_of_mul-lt-mul_right, mul-pos, zero-mul, add-mul, pow-suc, eq-zero-or-pos}
use native.Mathlib.Omega.{arith}
use mathlib.Core.Path.{◌≡◌, refl, sym, ap, ◌∙◌, subst}
use mathlib.Core.Logic.{inl, inr}
use mathlib.Core.Bool.{Bool, true, false, not, ◌&&◌, ◌||◌, beq, cond, true≢false, false≢true}
use lib.IntN.{ℤ, pos}
use lib.Dec.{T, ltb, eqb, lit≤}
use lib.Pow.{pow_pos}
use lib.Ieee.{Float, nan, inf, fin, binary64, emax, low, up, down, size, round, sum, neg, add, sub, div, lt, eq, le, is_nan, fits}
use lib.Ieee.Digits.{size-lt, size_reaches, size-le}
use lib.Ieee.Fits.{down_pos}
use borrow.Author.Tests.{ltb-true, ltb-false, eq-eqb}
use Rattle.samples.specs.Sides.{nought, one, finite, mark_fraction, point_fraction}
use Rattle.samples.proofs.Held.{nought-is, one-is, hold_range}
use Rattle.laws.proofs.Bools.{true_T}
use Rattle.laws.proofs.Floats.{debt, Most, le-most}
use Rattle.points.specs.Finite.{Under}
use Rattle.points.proofs.Gaps.{Units, units_of, gap_up, gap_down, Least, round_least, fraction_under}

-- ---- the power of two at or below a number
record Pow (D B : ℕ) : Type 0 where
  pub k : ℕ
  pub reach : 2 ^ k ≤ D
  pub under : D < 2 ^ suc k
  pub end : k < B

pow_of : (D B : ℕ) → 0 < D → D < 2 ^ B → Pow D B
pow_of D B h g =
    let s : 0 < size D = some (size D) (size-lt D) in
    let e : suc (size D - 1) ≡ size D = one_less (size D) s in
    record {
      k = size D - 1;
      reach = size_reaches D (size D - 1) (less (size D) s);
      under = rw e (size-lt D);
      end = lt_of_lt_of_le (less (size D) s) (size-le D B g);
    }
  where
    some : (z : ℕ) → D < 2 ^ z → 0 < z
    some zero g = absurd (lt_irrefl 1 (lt_of_le_of_lt h g))
    some (suc z) g = omega arith

    less : (z : ℕ) → 0 < z → z - 1 < z
    less z p = omega arith

    one_less : (z : ℕ) → 0 < z → suc (z - 1) ≡ z
    one_less z p = omega arith

-- y is at least 2 ^ k units, and P units are at most 2 ^ 55 times as many
pub record Near (y : Float) (P : ℕ) : Type 0 where
  pub k : ℕ
  pub least : Least binary64 y k
  pub close : P ≤ 2 ^ 55 * 2 ^ k

near : (s : Bool) (a c D P : ℕ) → 0 < c → D * c ≤ a * 2 ^ low binary64 → 0 < D → D < 2 ^ (low binary64 + suc (emax binary64)) → P ≤ (2 ^ 53 + 1) * D → Near (round binary64 s a c) P
near s a c D P C h p g w =
    let q = pow_of D (low binary64 + suc (emax binary64)) p g in
    record {
      k = q.k;
      least = round_least binary64 s a c D q.k C h q.reach q.end;
      close =
          le_trans w
          (le_trans (mul-le-mul_left (2 ^ 53 + 1) (le_of_lt q.under))
          (le_trans (mul-le-mul_right (2 ^ suc q.k) (lit≤ tt))
          (le_of_eq (ap (λ z. 2 ^ 54 * z) (pow-suc 2 q.k) ∙ twice (2 ^ q.k)))));
    }
  where
    twice : (x : ℕ) → 2 ^ 54 * (x * 2) ≡ 2 ^ 55 * x
    twice x = omega arith

-- ---- the difference of two values that differ is near enough to the first
lift : (x d e P L : ℕ) → x * L ≡ P * e → x * d * L ≡ P * (e * d)
lift x d e P L h = mul_right_comm x d L ∙ ap (λ z. z * d) h ∙ mul_assoc P e d

diff : (a b P Q c L : ℕ) → 0 < c → 0 < L → a * L ≡ P * c → b * L ≡ Q * c → a < b → (P < Q) × ((Q - P) * c ≤ (b - a) * L)
diff a b P Q c L C K h g l =
    let w : P * c < Q * c = rw (← h, ← g) (mul-lt-mul_of_pos_right l K) in
    let v : P < Q = lt_of_mul-lt-mul_right c w in
    let x : (b - a) * L + a * L ≡ b * L = sym (add-mul (b - a) a L) ∙ ap (λ z. z * L) (back a b l) in
    let y : (Q - P) * c + P * c ≡ Q * c = sym (add-mul (Q - P) P c) ∙ ap (λ z. z * c) (back P Q v) in
    (v, omega arith)
  where
    back : (a b : ℕ) → a < b → b - a + a ≡ b
    back a b l = omega arith

near-cond : (b : Bool) (x y : Float) (P : ℕ) → (b ≡ true → Near x P) → (b ≡ false → Near y P) → Near (cond b x y) P
near-cond true x y P f g = f refl
near-cond false x y P f g = g refl

level_no : (a b : ℕ) (z : Bool) → z ≡ true → (eqb a b && z) ≡ false → a ≡ b → ⊥
level_no a b z h e q = true≢false (sym (rw (eq-eqb a b q, h)) ∙ e)

or_r : (p q : Bool) → q ≡ true → (p || q) ≡ true
or_r true q e = refl
or_r false q e = e

or_l : (p q : Bool) → p ≡ true → (p || q) ≡ true
or_l true q e = refl
or_l false q e = absurd (false≢true e)

beq_not : (s t : Bool) → beq s (not t) ≡ false → beq s t ≡ true
beq_not true true e = refl
beq_not true false e = absurd (true≢false e)
beq_not false true e = absurd (true≢false e)
beq_not false false e = refl

module _ (s t : Bool) (m : ℕ) (e : ℤ) (n : ℕ) (d : ℤ) (u : Units binary64 m e) (v : Units binary64 n d) (differ : eq (fin s m e) (fin t n d) ≡ false) where
  pub sub-near : Near (sub binary64 (fin s m e) (fin t n d)) (m * 2 ^ u.shift)
  unfolding sub add sum neg eq
  sub-near =
      let L = 2 ^ low binary64 in
      let P = m * 2 ^ u.shift in
      let Q = n * 2 ^ v.shift in
      let a = m * up e * down d in
      let b = n * up d * down e in
      let c = down e * down d in
      let C : 0 < c = mul-pos (down_pos e) (down_pos d) in
      let K : 0 < L = pow_pos (low binary64) in
      let ea : a * L ≡ P * c = lift (m * up e) (down d) (down e) P L u.is in
      let eb : b * L ≡ Q * c = lift (n * up d) (down e) (down d) Q L v.is ∙ ap (λ z. Q * z) (mul_comm (down d) (down e)) in
      near-cond (beq s (not t)) (round binary64 s (a + b) c) (cond (ltb a b) (round binary64 (not t) (b - a) c) (round binary64 (s && ltb b a) (a - b) c)) P
      (λ _.
      let w : (a + b) * L ≡ P * c + Q * c = add-mul a b L ∙ rw (ea, eb) in
      elim (eq-zero-or-pos P) [
        | inl z ↦ elim (eq-zero-or-pos Q) [
          | inl y ↦
              let a0 : a ≡ 0 = zero_of a L (P * c) K ea (rw z (zero-mul c)) in
              let b0 : b ≡ 0 = zero_of b L (Q * c) K eb (rw y (zero-mul c)) in
              absurd (level_no a b (beq s t || eqb a 0) (or_r (beq s t) (eqb a 0) (eq-eqb a 0 a0)) differ (a0 ∙ sym b0))
          | inr y ↦ near s (a + b) c Q P C (part_r (Q * c) (P * c) ((a + b) * L) w) y v.top (rw z zero-le)
        ]
        | inr z ↦ near s (a + b) c P P C (part_l (P * c) (Q * c) ((a + b) * L) w) z u.top (wide P (2 ^ 53))
      ])
      (λ same.
      near-cond (ltb a b) (round binary64 (not t) (b - a) c) (round binary64 (s && ltb b a) (a - b) c) P
      (λ l. let r = diff a b P Q c L C K ea eb (ltb-true a b l) in
      near (not t) (b - a) c (Q - P) P C r.1 (gap P Q r.0) (lt_of_le_of_lt (less Q P) v.top) (gap_down 53 m u.shift n v.shift u.small v.small r.0))
      (λ g.
      let ne : b < a = strict b a (ltb-false a b g) (λ q. level_no a b (beq s t || eqb a 0) (or_l (beq s t) (eqb a 0) (beq_not s t same)) differ (sym q)) in
      let r = diff b a Q P c L C K eb ea ne in
      near (s && ltb b a) (a - b) c (P - Q) P C r.1 (gap Q P r.0) (lt_of_le_of_lt (less P Q) u.top) (gap_up 53 m u.shift n v.shift u.small v.small r.0)))
    where
      zero_of : (a L x : ℕ) → 0 < L → a * L ≡ x → x ≡ 0 → a ≡ 0
      zero_of a L x K h z = elim (eq-zero-or-pos a) [ inl q ↦ q | inr q ↦ absurd (lt_irrefl 0 (subst (λ (y : ℕ). 0 < y) (h ∙ z) (mul-pos q K))) ]

      part_l : (x y z : ℕ) → z ≡ x + y → x ≤ z
      part_l x y z h = omega arith

      part_r : (y x z : ℕ) → z ≡ x + y → y ≤ z
      part_r y x z h = omega arith

      wide : (x p : ℕ) → x ≤ (p + 1) * x
      wide x p = rw add-mul (omega arith)

      gap : (p q : ℕ) → p < q → 0 < q - p
      gap p q h = omega arith

      less : (q p : ℕ) → q - p ≤ q
      less q p = omega arith

      strict : (b a : ℕ) → b ≤ a → (b ≡ a → ⊥) → b < a
      strict b a h z = omega arith

  pub fraction : Under (div binary64 (fin s m e) (sub binary64 (fin s m e) (fin t n d))) 55
  fraction = let r = sub-near in fraction_under s m e (sub binary64 (fin s m e) (fin t n d)) 55 r.k u (lit≤ tt) r.close r.least

-- for all values
pub fraction_under_55 : (p q : Float) → T (fits binary64 p) → T (fits binary64 q) → finite p ≡ true → finite q ≡ true → eq p q ≡ false → Under (mark_fraction p q) 55
unfolding finite mark_fraction
fraction_under_55 nan q f g a b h = absurd (false≢true a)
fraction_under_55 (inf s) q f g a b h = absurd (false≢true a)
fraction_under_55 (fin s m e) nan f g a b h = absurd (false≢true b)
fraction_under_55 (fin s m e) (inf t) f g a b h = absurd (false≢true b)
fraction_under_55 (fin s m e) (fin t n d) f g a b h = fraction s t m e n d (units_of binary64 s m e f) (units_of binary64 t n d g) h

-- ---- held

-- what lies from 0 to 1 has nothing below zero, and is at most 1
pub record Part (s : Bool) (m : ℕ) (e : ℤ) : Type 0 where
  pub none : debt s (m * up e) ≡ 0
  pub most : m * up e ≤ down e

pub part : (s : Bool) (m : ℕ) (e : ℤ) → T (le (fin false 0 (pos 0)) (fin s m e)) → T (le (fin s m e) (fin false 1 (pos 0))) → Part s m e
part s m e h g = go s (le-most false 0 (pos 0) s m e h) (le-most s m e false 1 (pos 0) g)
  where
    go : (s : Bool) → Most false 0 1 s (m * up e) (down e) → Most s (m * up e) (down e) false 1 1 → Part s m e
    go false h g = record { none = refl; most = omega arith }
    go true h g = record { none = omega arith; most = omega arith }

pub part-under : (s : Bool) (m : ℕ) (e : ℤ) → Part s m e → Under (fin s m e) 0
part-under s m e p = omega (arith, p.most)

unit-under : (x : Float) → T (le (fin false 0 (pos 0)) x) → T (le x (fin false 1 (pos 0))) → Under x 0
unfolding le lt eq
unit-under nan a b = absurd a
unit-under (inf true) a b = absurd a
unit-under (inf false) a b = absurd b
unit-under (fin s m e) a b = part-under s m e (part s m e a b)

under-number : (x : Float) (k : ℕ) → Under x k → is_nan x ≡ false
unfolding is_nan
under-number nan k h = absurd h
under-number (inf s) k h = absurd h
under-number (fin s m e) k h = refl

pub held-unit : (p q : Float) → T (fits binary64 p) → T (fits binary64 q) → finite p ≡ true → finite q ≡ true → eq p q ≡ false
    → (le nought (point_fraction p q) ≡ true) × (le (point_fraction p q) one ≡ true)
unfolding point_fraction
held-unit p q f g a b h = hold_range (mark_fraction p q) (under-number (mark_fraction p q) 55 (fraction_under_55 p q f g a b h))

pub held-under : (p q : Float) → T (fits binary64 p) → T (fits binary64 q) → finite p ≡ true → finite q ≡ true → eq p q ≡ false → Under (point_fraction p q) 0
held-under p q f g a b h =
    let r = held-unit p q f g a b h in
    unit-under (point_fraction p q) (true_T _ (rw nought-is at r.0)) (true_T _ (rw one-is at r.1))
