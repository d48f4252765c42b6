-- The order of finite floats as one of whole numbers: what each has above zero and below it, over one denominator. Assumes nothing.
use Prim.Native.Nat.{ℕ, ◌+◌, ◌*◌, ◌≤◌, ◌<◌}
use native.Mathlib.Nat.{zero-mul, add-mul, mul_right_comm, mul-le-mul_right, mul-lt-mul_of_pos_right, lt_of_mul-lt-mul_right, lt_irrefl, lt_of_lt_of_le, le_of_lt, le_of_eq, eq-or-lt_of_le}
use native.Mathlib.Omega.{arith}
use mathlib.Core.Path.{◌≡◌, refl, sym, ◌∙◌}
use mathlib.Core.Logic.{inl, inr}
use mathlib.Core.Bool.{Bool, true, false, ◌&&◌, ◌||◌, beq, cond, true≢false}
use lib.IntN.{ℤ}
use lib.Dec.{T, eqb, ltb→lt, lt→ltb, eqb→eq}
use lib.Ieee.{Float, nan, inf, fin, up, down, below, level, lt, eq, le, is_nan}
use borrow.Author.Tests.{eq-eqb}
use Rattle.laws.proofs.Bools.{T_true, true_T}
use Rattle.laws.proofs.Ranges.{lt-or}

-- what a number with a sign has above zero, and below it
abbrev pub gain : Bool → ℕ → ℕ
gain s a = cond s 0 a

abbrev pub debt : Bool → ℕ → ℕ
debt s a = cond s a 0

pub gain-times : (s : Bool) (a q : ℕ) → gain s (a * q) ≡ gain s a * q
gain-times true a q = sym (zero-mul q)
gain-times false a q = refl

pub debt-times : (s : Bool) (a q : ℕ) → debt s (a * q) ≡ debt s a * q
debt-times true a q = refl
debt-times false a q = sym (zero-mul q)

-- ±x / e < ±y / d, and ≤
abbrev pub Less : Bool → ℕ → ℕ → Bool → ℕ → ℕ → Type 0
Less s x e t y d = gain s x * d + debt t y * e < gain t y * e + debt s x * d

abbrev pub Most : Bool → ℕ → ℕ → Bool → ℕ → ℕ → Type 0
Most s x e t y d = gain s x * d + debt t y * e ≤ gain t y * e + debt s x * d

-- ---- with one denominator
below_less : (s t : Bool) (a b : ℕ) → T (below s a t b) → gain s a + debt t b < gain t b + debt s a
below_less false false a b h = let l = ltb→lt a b h in omega arith
below_less false true a b h = absurd h
below_less true false a b h = let l = ltb→lt 0 (a + b) h in omega arith
below_less true true a b h = let l = ltb→lt b a h in omega arith

less-below : (s t : Bool) (a b : ℕ) → gain s a + debt t b < gain t b + debt s a → T (below s a t b)
less-below false false a b h = lt→ltb a b (omega arith)
less-below false true a b h = absurd (none h)
  where
    none : a + b < 0 → ⊥
    none h = omega arith
less-below true false a b h = lt→ltb 0 (a + b) (omega arith)
less-below true true a b h = lt→ltb b a (omega arith)

level_same : (s t : Bool) (a b : ℕ) → T (level s a t b) → gain s a + debt t b ≡ gain t b + debt s a
level_same s t a b h = go s t (eqb a b) (eqb a 0) (eqb→eq a b) (eqb→eq a 0) h
  where
    go : (s t p q : Bool) → (T p → a ≡ b) → (T q → a ≡ 0) → T (p && (beq s t || q)) → gain s a + debt t b ≡ gain t b + debt s a
    go s t false q f g h = absurd h
    go false false true q f g h = let i = f tt in omega arith
    go true true true q f g h = let i = f tt in omega arith
    go false true true true f g h = let i = f tt in let j = g tt in omega arith
    go false true true false f g h = absurd h
    go true false true true f g h = let i = f tt in let j = g tt in omega arith
    go true false true false f g h = absurd h

same_level : (s t : Bool) (a b : ℕ) → gain s a + debt t b ≡ gain t b + debt s a → T (level s a t b)
same_level false false a b h = let i : a ≡ b = omega arith in rw (eq-eqb a b i) tt
same_level true true a b h = let i : a ≡ b = omega arith in rw (eq-eqb a b i) tt
same_level false true a b h = let i : a ≡ b = omega arith in let j : a ≡ 0 = omega arith in rw (eq-eqb a b i, eq-eqb a 0 j) tt
same_level true false a b h = let i : a ≡ b = omega arith in let j : a ≡ 0 = omega arith in rw (eq-eqb a b i, eq-eqb a 0 j) tt

-- ---- of two floats
pub lt-less : (s : Bool) (m : ℕ) (e : ℤ) (t : Bool) (n : ℕ) (d : ℤ) → T (lt (fin s m e) (fin t n d)) → Less s (m * up e) (down e) t (n * up d) (down d)
unfolding lt
lt-less s m e t n d h =
    rw (← gain-times s (m * up e) (down d), ← gain-times t (n * up d) (down e), ← debt-times s (m * up e) (down d), ← debt-times t (n * up d) (down e))
    (below_less s t (m * up e * down d) (n * up d * down e) h)

pub less-lt : (s : Bool) (m : ℕ) (e : ℤ) (t : Bool) (n : ℕ) (d : ℤ) → Less s (m * up e) (down e) t (n * up d) (down d) → T (lt (fin s m e) (fin t n d))
unfolding lt
less-lt s m e t n d h =
    less-below s t (m * up e * down d) (n * up d * down e)
    (rw (gain-times s (m * up e) (down d), gain-times t (n * up d) (down e), debt-times s (m * up e) (down d), debt-times t (n * up d) (down e)) h)

pub le-most : (s : Bool) (m : ℕ) (e : ℤ) (t : Bool) (n : ℕ) (d : ℤ) → T (le (fin s m e) (fin t n d)) → Most s (m * up e) (down e) t (n * up d) (down d)
unfolding le lt eq
le-most s m e t n d h =
    let a = m * up e * down d in
    let b = n * up d * down e in
    rw (← gain-times s (m * up e) (down d), ← gain-times t (n * up d) (down e), ← debt-times s (m * up e) (down d), ← debt-times t (n * up d) (down e))
    (go (below s a t b) (level s a t b) (below_less s t a b) (level_same s t a b) h)
  where
    go : {x y : ℕ} (p q : Bool) → (T p → x < y) → (T q → x ≡ y) → T (p || q) → x ≤ y
    go true q f g h = le_of_lt (f tt)
    go false true f g h = le_of_eq (g tt)
    go false false f g h = absurd h

pub most-le : (s : Bool) (m : ℕ) (e : ℤ) (t : Bool) (n : ℕ) (d : ℤ) → Most s (m * up e) (down e) t (n * up d) (down d) → T (le (fin s m e) (fin t n d))
unfolding le lt eq
most-le s m e t n d h =
    let a = m * up e * down d in
    let b = n * up d * down e in
    let g : gain s a + debt t b ≤ gain t b + debt s a = rw (gain-times s (m * up e) (down d), gain-times t (n * up d) (down e), debt-times s (m * up e) (down d), debt-times t (n * up d) (down e)) h in
    elim (eq-or-lt_of_le g) [
      | inl i ↦ or_r (below s a t b) (level s a t b) (same_level s t a b i)
      | inr i ↦ or_l (below s a t b) (level s a t b) (less-below s t a b i)
    ]
  where
    or_l : (p q : Bool) → T p → T (p || q)
    or_l true q h = tt
    or_l false q h = absurd h

    or_r : (p q : Bool) → T q → T (p || q)
    or_r true q h = tt
    or_r false q h = h

-- equal values, both ways
pub eq-most : (s : Bool) (m : ℕ) (e : ℤ) (t : Bool) (n : ℕ) (d : ℤ) → T (eq (fin s m e) (fin t n d))
    → Most s (m * up e) (down e) t (n * up d) (down d) × Most t (n * up d) (down d) s (m * up e) (down e)
unfolding eq
eq-most s m e t n d h =
    let i = level_same s t (m * up e * down d) (n * up d * down e) h in
    rw (← gain-times s (m * up e) (down d), ← gain-times t (n * up d) (down e), ← debt-times s (m * up e) (down d), ← debt-times t (n * up d) (down e)) (le_of_eq i, le_of_eq (sym i))

-- ±x / e ≤ ±y / d < ±k / g
pub most-less : (s : Bool) (x e : ℕ) (t : Bool) (y d : ℕ) (u : Bool) (k g : ℕ) → 0 < e → Most s x e t y d → Less t y d u k g → Less s x e u k g
most-less s x e t y d u k g E h i = through (gain s x) (debt s x) (gain t y) (debt t y) (gain u k) (debt u k) h i
  where
    through : (P N Q M R O : ℕ) → P * d + M * e ≤ Q * e + N * d → Q * g + O * d < R * d + M * g → P * g + O * e < R * e + N * g
    through P N Q M R O h i =
        let a : P * d * g + M * e * g ≤ Q * e * g + N * d * g = simp add-mul at (mul-le-mul_right g h) in
        let b : Q * g * e + O * d * e < R * d * e + M * g * e = simp add-mul at (mul-lt-mul_of_pos_right i E) in
        let c : P * g * d + O * e * d < R * e * d + N * g * d =
        omega (arith, mul_right_comm P d g, mul_right_comm N d g, mul_right_comm M e g, mul_right_comm Q e g, mul_right_comm O d e, mul_right_comm R d e) in
        lt_of_mul-lt-mul_right d (rw (← add-mul (P * g) (O * e) d, ← add-mul (R * e) (N * g) d) at c)

-- ---- of all floats: what is not below is at least, and the other way round
pub not-lt-le : (x y : Float) → is_nan x ≡ false → is_nan y ≡ false → lt x y ≡ false → T (le y x)
unfolding is_nan lt eq le
not-lt-le nan y a b h = absurd (true≢false a)
not-lt-le (inf s) nan a b h = absurd (true≢false b)
not-lt-le (fin s m e) nan a b h = absurd (true≢false b)
not-lt-le (inf true) (inf true) a b h = tt
not-lt-le (inf true) (inf false) a b h = absurd (true≢false h)
not-lt-le (inf false) (inf true) a b h = tt
not-lt-le (inf false) (inf false) a b h = tt
not-lt-le (inf true) (fin t n d) a b h = absurd (true≢false h)
not-lt-le (inf false) (fin t n d) a b h = tt
not-lt-le (fin s m e) (inf true) a b h = tt
not-lt-le (fin s m e) (inf false) a b h = absurd (true≢false h)
not-lt-le (fin s m e) (fin t n d) a b h =
    elim (lt-or (gain s (m * up e) * down d + debt t (n * up d) * down e) (gain t (n * up d) * down e + debt s (m * up e) * down d)) [
      | inl l ↦ absurd (true≢false (sym (T_true _ (less-lt s m e t n d l)) ∙ h))
      | inr l ↦ most-le t n d s m e l
    ]

pub le_not_lt : (x y : Float) → T (le x y) → lt y x ≡ false
unfolding lt eq le
le_not_lt nan y h = absurd h
le_not_lt (inf s) nan h = refl
le_not_lt (fin s m e) nan h = refl
le_not_lt (inf true) (inf true) h = refl
le_not_lt (inf true) (inf false) h = refl
le_not_lt (inf false) (inf true) h = absurd h
le_not_lt (inf false) (inf false) h = refl
le_not_lt (inf true) (fin t n d) h = refl
le_not_lt (inf false) (fin t n d) h = absurd h
le_not_lt (fin s m e) (inf true) h = absurd h
le_not_lt (fin s m e) (inf false) h = refl
le_not_lt (fin s m e) (fin t n d) h = go (lt (fin t n d) (fin s m e)) refl
  where
    go : (b : Bool) → lt (fin t n d) (fin s m e) ≡ b → b ≡ false
    go false i = refl
    go true i = absurd (lt_irrefl _ (lt_of_lt_of_le (lt-less t n d s m e (true_T _ i)) (le-most s m e t n d h)))
