-- x + 2^52 - 2^52 is the whole number nearest to x, for x above 0 and below 2^52; from 2^52 on a float is whole. Assumes nothing.
use Rattle.std.proofs.Common.{◌≡◌, ℕ, zero, suc, ◌+◌, ◌-◌, ◌*◌, ◌/◌, ◌%◌, ◌^◌, ◌<◌, ◌≤◌, Bool, true, false, cond, not, ◌&&◌, T, eqb, ltb, leb, ℤ, pos, negsuc, sym, refl, ap, ◌∙◌, subst, ap₂, le_trans, le_of_eq, lt_of_lt_of_le, lt_of_le_of_lt, lt_irrefl, mul-le-mul_right, mul_assoc, mul_comm, div-lt_iff_lt-mul, le_antisymm, mul-lt-mul_of_pos_right, mul-pos, lt_of_not-le, le-div_iff_mul-le, mul-one, mul_right_comm, div-one, mul-div_cancel, arith, ltb→lt, lt→ltb, nltb→le, pow_pos, pow_mono, pow-add, lt-ltb, le-leb}
use mathlib.Core.Option.{some}
use Prim.Native.Nat.{compare, Ordering}
use native.Mathlib.Nat.{eq_of_mul-eq-mul_right, mul-mod_left, add-mul-div_right, add-mul-mod_self_right, mod-one}
use lib.Ieee.{Float, nan, inf, fin, binary64, up, down, size, nearest, round, sum, add, sub, neg, lt, fits, to_unsigned, in_unsigned, whole}
use lib.Ieee.Digits.{size-lt, size-le}
use lib.Ieee.Exact.{HasValue, round_exact}
use lib.Ieee.Fits.{down_pos, and_l, and_r, nearest-le}
use lib.Ieee.Nearest.{closest, closest_same}
use lib.Ieee.Scale.{grid, overflow, round_val}
use Rattle.laws.specs.Ints.{signed}
use Rattle.units.specs.Whole.{whole_of}

-- ---- an even whole number more

nearest_more : (q k : ℕ) (o : Ordering) → nearest (q + 2 * k) o ≡ 2 * k + nearest q o
nearest_more q k Ordering.lt = omega arith
nearest_more q k Ordering.eq = omega arith
nearest_more q k Ordering.gt = omega arith

closest_more : (a d k : ℕ) → 0 < d → closest (a + 2 * k * d) d ≡ 2 * k + closest a d
closest_more a d k D =
    ap (λ (q : ℕ). nearest q (compare ((a + 2 * k * d) % d * 2) d)) (add-mul-div_right a (2 * k) D)
    ∙ ap (λ (r : ℕ). nearest (a / d + 2 * k) (compare (r * 2) d)) (add-mul-mod_self_right a (2 * k) d)
    ∙ nearest_more (a / d) k (compare (a % d * 2) d)

closest_lt : (a d b : ℕ) → 0 < d → a < b * d → closest a d ≤ b
closest_lt a d b D h = le_trans (nearest-le (a / d) (compare (a % d * 2) d)) ((div-lt_iff_lt-mul D).1 h)

-- ---- values over 1

over_one : (x : Float) (w l : ℕ) → 0 < l → HasValue x false (w * l) l → HasValue x false w 1
over_one nan w l p v = v
over_one (inf s) w l p v = v
over_one (fin t m e) w l p v = (
  v.0,
  eq_of_mul-eq-mul_right l p (m * up e * 1) (w * down e) (ap (λ (k : ℕ). k * l) (mul-one (m * up e)) ∙ v.1 ∙ mul_right_comm w l (down e)),
)

-- ---- a fraction from 2 ^ 52 on and below 2 ^ 53 is rounded to a whole number

module _ (n d : ℕ) (D : 0 < d) (lo : 2 ^ 52 * d ≤ n) (hi : n < 2 ^ 53 * d) where
  high : n * 2 ^ 1074 / d < 2 ^ 1127
  high = (div-lt_iff_lt-mul D).1 (lt_of_lt_of_le (mul-lt-mul_of_pos_right hi (pow_pos 1074)) (le_of_eq (mul_right_comm (2 ^ 53) d (2 ^ 1074) ∙ ap (λ (k : ℕ). k * d) (sym (pow-add 2 53 1074)))))

  low : 2 ^ 1126 ≤ n * 2 ^ 1074 / d
  low = (le-div_iff_mul-le D).1 (le_trans (le_of_eq (ap (λ (k : ℕ). k * d) (pow-add 2 52 1074) ∙ mul_right_comm (2 ^ 52) (2 ^ 1074) d)) (mul-le-mul_right (2 ^ 1074) lo))

  size_is : size (n * 2 ^ 1074 / d) ≡ 1127
  size_is =
      le_antisymm (size-le (n * 2 ^ 1074 / d) 1127 high)
      (lt_of_not-le (λ (g : size (n * 2 ^ 1074 / d) ≤ 1126). lt_irrefl (2 ^ 1126) (lt_of_le_of_lt low (lt_of_lt_of_le (size-lt (n * 2 ^ 1074 / d)) (pow_mono g)))))

  grid_is : grid binary64 n d ≡ closest n d * 2 ^ 1074
  grid_is =
      ap (λ (z : ℕ). closest (n * 2 ^ 1074) (d * 2 ^ (z - 53)) * 2 ^ (z - 53)) size_is
      ∙ ap (λ (z : ℕ). z * 2 ^ 1074) (closest_same (n * 2 ^ 1074) (d * 2 ^ 1074) n d (mul-pos D (pow_pos 1074)) D (mul_assoc n (2 ^ 1074) d ∙ ap (λ (k : ℕ). n * k) (mul_comm (2 ^ 1074) d)))

  small : closest n d * 2 ^ 1074 < overflow binary64
  small = lt_of_le_of_lt (mul-le-mul_right (2 ^ 1074) (closest_lt n d (2 ^ 53) D hi)) (lit< tt)
    where
      lit< : T (ltb (2 ^ 53 * 2 ^ 1074) (2 ^ 2098)) → 2 ^ 53 * 2 ^ 1074 < 2 ^ 2098
      lit< t = ltb→lt (2 ^ 53 * 2 ^ 1074) (2 ^ 2098) t

  whole-value : HasValue (round binary64 false n d) false (closest n d) 1
  whole-value =
      over_one (round binary64 false n d) (closest n d) (2 ^ 1074) (pow_pos 1074)
      (subst (λ (g : ℕ). HasValue (round binary64 false n d) false g (2 ^ 1074)) grid_is (round_val binary64 n d (subst (λ (g : ℕ). g < overflow binary64) (sym grid_is) small)))

-- ---- the sum

abbrev pub big : Float
big = fin false 1 (pos 52)

add_is : (m : ℕ) (e : ℤ) → add binary64 (fin false m e) big ≡ round binary64 false (m * up e * 1 + 1 * 2 ^ 52 * down e) (down e * 1)
unfolding add sum
add_is m e = refl

module _ (m : ℕ) (e : ℤ) (h : m * up e * 1 < 1 * 2 ^ 52 * down e) where
  abbrev c : ℕ
  c = closest (m * up e) (down e)

  sum-value : HasValue (add binary64 (fin false m e) big) false (2 ^ 52 + c) 1
  sum-value =
      let n = m * up e * 1 + 1 * 2 ^ 52 * down e in
      let d = down e * 1 in
      let D : 0 < d = subst (λ (k : ℕ). 0 < k) (sym (mul-one (down e))) (down_pos e) in
      let lo : 2 ^ 52 * d ≤ n = omega arith in
      let hi : n < 2 ^ 53 * d = omega arith in
      let e1 : n ≡ m * up e + 2 * 2 ^ 51 * down e = omega arith in
      let is : closest n d ≡ 2 ^ 52 + c = ap₂ closest e1 (mul-one (down e)) ∙ closest_more (m * up e) (down e) (2 ^ 51) (down_pos e) in
      subst (λ (y : Float). HasValue y false (2 ^ 52 + c) 1) (sym (add_is m e)) (subst (λ (k : ℕ). HasValue (round binary64 false n d) false k 1) is (whole-value n d D lo hi))

  c_le : c ≤ 2 ^ 52
  c_le = closest_lt (m * up e) (down e) (2 ^ 52) (down_pos e) (omega arith)

-- ---- the difference

no_turn : (t : Bool) → true ≡ false → ⊥
no_turn t e = let z : ◌≡◌ {A = ℕ} 0 1 = cc in omega arith

sub-value : (y : Float) (c : ℕ) → c ≤ 2 ^ 52 → HasValue y false (2 ^ 52 + c) 1 → HasValue (sub binary64 y big) false c 1
unfolding sub add neg sum
sub-value nan c h v = v
sub-value (inf s) c h v = v
sub-value (fin true m e) c h v = absurd (no_turn true v.0)
sub-value (fin false m e) c h v = go (ltb a b) (ltb→lt a b)
  where
    a : ℕ
    a = m * up e * 1

    b : ℕ
    b = 1 * 2 ^ 52 * down e

    is : a ≡ (2 ^ 52 + c) * down e
    is = v.1

    rest : a - b ≡ c * down e
    rest = omega arith

    exact : HasValue (round binary64 false (a - b) (down e * 1)) false (a - b) (down e * 1)
    exact =
        round_exact binary64 false (a - b) (down e * 1) c 1074 (subst (λ (k : ℕ). 0 < k) (sym (mul-one (down e))) (down_pos e)) (lt_of_le_of_lt h (lit< tt)) (lt_of_le_of_lt (mul-le-mul_right (2 ^ 1074) h) (lit2 tt))
        (ap (λ (k : ℕ). k * 2 ^ 1074) rest ∙ mul_right_comm c (down e) (2 ^ 1074) ∙ ap (λ (k : ℕ). c * 2 ^ 1074 * k) (sym (mul-one (down e))))
      where
        lit< : T (ltb (2 ^ 52) (2 ^ 53)) → 2 ^ 52 < 2 ^ 53
        lit< t = ltb→lt (2 ^ 52) (2 ^ 53) t

        lit2 : T (ltb (2 ^ 52 * 2 ^ 1074) (2 ^ 2098)) → 2 ^ 52 * 2 ^ 1074 < 2 ^ 2098
        lit2 t = ltb→lt (2 ^ 52 * 2 ^ 1074) (2 ^ 2098) t

    go : (t : Bool) → (T t → a < b) → HasValue (cond t (round binary64 true (b - a) (down e * 1)) (round binary64 (false && ltb b a) (a - b) (down e * 1))) false c 1
    go true l = let z : a < b = l tt in absurd (omega arith)
    go false l = over_one (round binary64 false (a - b) (down e * 1)) c (down e) (down_pos e) (subst (λ (k : ℕ × ℕ). HasValue (round binary64 false (a - b) (down e * 1)) false k.0 k.1) (λ i. (rest i, mul-one (down e) i)) exact)

-- ---- the cast

record Casts (z : Float) (c : ℕ) : Type 0 where
  pub fine : T (in_unsigned binary64 64 z)
  pub is : to_unsigned 64 z ≡ c

cast_value : (z : Float) (c : ℕ) → c ≤ 2 ^ 52 → HasValue z false c 1 → Casts z c
unfolding in_unsigned whole to_unsigned
cast_value nan c h v = absurd v
cast_value (inf s) c h v = absurd v
cast_value (fin true m e) c h v = absurd (no_turn true v.0)
cast_value (fin false m e) c h v =
    let is : m * up e ≡ c * down e = sym (mul-one (m * up e)) ∙ v.1 in
    let q : m * up e / down e ≡ c = ap (λ (k : ℕ). k / down e) is ∙ mul-div_cancel c (down_pos e) in
    let r : m * up e % down e ≡ 0 = ap (λ (k : ℕ). k % down e) is ∙ mul-mod_left c (down e) in
    let l : c ≤ 2 ^ 53 = omega arith in
    let w : c < 2 ^ 64 = omega arith in
    record {
      fine = rw (q, r, le-leb c (2 ^ 53) l, lt-ltb c (2 ^ 64) w) tt;
      is = rw q (omega arith);
    }

-- ---- the code's two ways

below-big : (m : ℕ) (e : ℤ) → T (lt (fin false m e) big) → m * up e * 1 < 1 * 2 ^ 52 * down e
unfolding lt
below-big m e h = ltb→lt (m * up e * 1) (1 * 2 ^ 52 * down e) h

-- the cast of z is the whole number of x
pub record Rounds (x z : Float) : Type 0 where
  pub fine : T (in_unsigned binary64 64 z)
  pub is : whole_of x ≡ some (pos (to_unsigned 64 z))

-- x + 2^52 - 2^52
pub low_way : (x : Float) → T (lt (fin false 0 (pos 0)) x) → T (lt x big) → Rounds x (sub binary64 (add binary64 x big) big)
unfolding lt whole_of signed
low_way nan p h = absurd p
low_way (inf true) p h = absurd p
low_way (inf false) p h = absurd h
low_way (fin true m e) p h = absurd p
low_way (fin false m e) p h =
    let l = below-big m e h in
    let y = add binary64 (fin false m e) big in
    let z = cast_value (sub binary64 y big) (closest (m * up e) (down e)) (c_le m e l) (sub-value y (closest (m * up e) (down e)) (c_le m e l) (sum-value m e l)) in
    record { fine = z.fine; is = ap (λ (k : ℕ). some (pos k)) (sym z.is) }

-- from 2^52 on
pub above-minus : (x : Float) → T (lt (fin false 0 (pos 0)) x) → T (lt (fin true 1 (pos 0)) x)
unfolding lt
above-minus nan p = absurd p
above-minus (inf true) p = absurd p
above-minus (inf false) p = tt
above-minus (fin true m e) p = absurd p
above-minus (fin false m e) p = lt→ltb 0 (1 * down e + m * up e * 1) (omega (arith, down_pos e))

closest_one : (a : ℕ) → closest a 1 ≡ a
closest_one a = ap (λ (r : ℕ). nearest (a / 1) (compare (r * 2) 1)) (mod-one a) ∙ div-one a

pub high_way : (x : Float) → T (fits binary64 x) → T (lt (fin false 0 (pos 0)) x) → T (not (lt x big)) → T (lt x (fin false 1 (pos 64))) → whole_of x ≡ some (pos (to_unsigned 64 x))
unfolding lt whole_of signed to_unsigned fits
high_way nan f p n h = absurd p
high_way (inf true) f p n h = absurd p
high_way (inf false) f p n h = absurd h
high_way (fin true m e) f p n h = absurd p
high_way (fin false m (pos k)) f p n h =
    let l : m * 2 ^ k * 1 < 1 * 2 ^ 64 * 1 = ltb→lt (m * 2 ^ k * 1) (1 * 2 ^ 64 * 1) h in
    let d : m * 2 ^ k / 1 ≡ m * 2 ^ k = div-one (m * 2 ^ k) in
    ap (λ (j : ℕ). some (pos j)) (closest_one (m * 2 ^ k) ∙ rw d (omega arith))
high_way (fin false zero (negsuc k)) f p n h = let z : 0 * 2 ^ suc k < 0 * 1 * 1 = ltb→lt (0 * 2 ^ suc k) (0 * 1 * 1) p in absurd (omega arith)
high_way (fin false (suc m) (negsuc k)) f p n h =
    let g : 1 * 2 ^ 52 * 2 ^ suc k ≤ suc m * 1 * 1 = nltb→le (suc m * 1 * 1) (1 * 2 ^ 52 * 2 ^ suc k) n in
    let s : suc m < 2 ^ 53 = ltb→lt (suc m) (2 ^ 53) (second m k f) in
    let t : 2 ≤ 2 ^ suc k = two k in
    absurd (omega arith)
  where
    second : (m k : ℕ) → T (fits binary64 (fin false (suc m) (negsuc k))) → T (ltb (suc m) (2 ^ 53))
    second m k f =
        let a = eqb (suc m % 2) 1 in
        let b = ltb (suc m) (2 ^ 53) in
        let c = leb (2 ^ suc k) (2 ^ 1074) in
        let d = ltb (suc m * 1) (2 ^ 1024 * 2 ^ suc k) in
        and_r a b (and_l (a && b) c (and_l (a && b && c) d f))

    two : (k : ℕ) → 2 ≤ 2 ^ suc k
    two k = omega (arith, pow_pos k)
