-- Laws of numbers in decimal: digit by digit, how long they are, no needless zero, that a run of digits ends where they do, and that they say the number.
-- Assumes nothing.
use mathlib.Core.Path.{◌≡◌, refl, sym, ap, ◌∙◌}
use mathlib.Core.Logic.{inl, inr}
use mathlib.Core.List.{List, [], ◌∷◌, ◌++◌}
use Prim.Native.Nat.{ℕ, zero, suc, ◌+◌, ◌-◌, ◌*◌, ◌/◌, ◌%◌, ◌^◌, ◌≤◌, ◌<◌, zero-le}
use native.Mathlib.Nat.{pow-suc}
use native.Mathlib.Omega.{arith}
use lib.ListN.{length, get_or, length-append, get_or-append}
use borrow.Author.Tests.{lt-ltb, le-ltb}
use Rattle.laws.proofs.Ranges.{lt-or}
use Rattle.lines.specs.Numbers.{digits, dec}

-- ---- digit by digit

digits-small : (k n : ℕ) → n < 10 → digits k n ≡ (48 + n) ∷ []
unfolding digits
digits-small zero n h = refl
digits-small (suc k) n h = rw (lt-ltb n 10 h)

digits_large : (k n : ℕ) → 10 ≤ n → digits (suc k) n ≡ digits k (n / 10) ++ ((48 + n % 10) ∷ [])
unfolding digits
digits_large k n h = rw (le-ltb n 10 h)

tenth : (k n : ℕ) → n < 10 ^ suc k → n / 10 < 10 ^ k
tenth k n h =
    let e : 10 ^ suc k ≡ 10 ^ k * 10 = pow-suc 10 k in
    omega (arith, e)

-- room for a digit more changes nothing
digits_more : (k n : ℕ) → n < 10 ^ suc k → digits k n ≡ digits (suc k) n
digits_more zero n h = digits-small 0 n (omega arith) ∙ sym (digits-small 1 n (omega arith))
digits_more (suc k) n h = elim (lt-or n 10) [
  | inl t ↦ digits-small (suc k) n t ∙ sym (digits-small (suc (suc k)) n t)
  | inr t ↦ digits_large k n t ∙ ap (λ l. l ++ ((48 + n % 10) ∷ [])) (digits_more k (n / 10) (tenth (suc k) n h)) ∙ sym (digits_large (suc k) n t)
]

pub dec-small : (n : ℕ) → n < 10 → dec n ≡ (48 + n) ∷ []
unfolding dec
dec-small n h = digits-small 19 n h

-- a number of more than one digit: its tenth, and the last digit
pub dec_large : (n : ℕ) → 10 ≤ n → n < 10 ^ 20 → dec n ≡ dec (n / 10) ++ ((48 + n % 10) ∷ [])
unfolding dec
dec_large n h b = digits_large 18 n h ∙ ap (λ l. l ++ ((48 + n % 10) ∷ [])) (digits_more 18 (n / 10) (tenth 19 n b))

-- one more digit
pub dec_more : (n d : ℕ) → 0 < n → n < 1000000000 → d < 10 → dec (n * 10 + d) ≡ dec n ++ ((48 + d) ∷ [])
dec_more n d z b h =
    let q : (n * 10 + d) / 10 ≡ n = omega arith in
    let m : (n * 10 + d) % 10 ≡ d = omega arith in
    let w : n * 10 + d < 10 ^ 20 = omega arith in
    rw (dec_large (n * 10 + d) (omega arith) w, q, m)

-- ---- a run of digits, and what ends it

pub record Digit (b : ℕ) : Type 0 where
  pub low : 48 ≤ b
  pub high : b ≤ 57

pub data Run : List ℕ → Type 0 where
  end : Run []
  more : {b : ℕ} {l : List ℕ} → Digit b → Run l → Run (b ∷ l)

one-digit : (d : ℕ) → d < 10 → Run ((48 + d) ∷ [])
one-digit d h = let g : Digit (48 + d) = record { low = omega arith; high = omega arith } in more g end

pub run-append : {a b : List ℕ} → Run a → Run b → Run (a ++ b)
run-append end q = q
run-append (more d p) q = more d (run-append p q)

run-digits : (k n : ℕ) → n < 10 ^ suc k → Run (digits k n)
run-digits zero n h = rw (digits-small 0 n (omega arith)) (one-digit n (omega arith))
run-digits (suc k) n h = elim (lt-or n 10) [
  | inl t ↦ rw (digits-small (suc k) n t) (one-digit n t)
  | inr t ↦
      let e : 10 ^ suc (suc k) ≡ 10 ^ suc k * 10 = pow-suc 10 (suc k) in
      rw (digits_large k n t) (run-append (run-digits k (n / 10) (omega (arith, e))) (one-digit (n % 10) (omega arith)))
]

pub run-dec : (n : ℕ) → n < 1000000000 → Run (dec n)
unfolding dec
run-dec n h = run-digits 19 n (omega arith)

cons_head : {a b : ℕ} {l m : List ℕ} → a ∷ l ≡ b ∷ m → a ≡ b
cons_head e = cc

cons_tail : {a b : ℕ} {l m : List ℕ} → a ∷ l ≡ b ∷ m → l ≡ m
cons_tail e = cc

pub lf_no_digit : Digit 10 → ⊥
lf_no_digit d = omega (arith, d.low)

-- where two runs are each ended by a byte that is no digit, all is equal
pub record Same (ds es : List ℕ) (b c : ℕ) (r t : List ℕ) : Type 0 where
  pub runs : ds ≡ es
  pub ends : b ≡ c
  pub rests : r ≡ t

pub span : {ds es : List ℕ} → Run ds → Run es → (b c : ℕ) (r t : List ℕ) → (Digit b → ⊥) → (Digit c → ⊥) → ds ++ b ∷ r ≡ es ++ c ∷ t → Same ds es b c r t
span end end b c r t nb nc e = record { runs = refl; ends = cons_head e; rests = cons_tail e }
span end (more d q) b c r t nb nc e = let h = cons_head e in absurd (nb (rw h d))
span (more d p) end b c r t nb nc e = let h = cons_head e in absurd (nc (rw (sym h) d))
span (more d p) (more d' q) b c r t nb nc e =
    let i = span p q b c r t nb nc (cons_tail e) in
    let h = cons_head e in
    record { runs = rw (h, i.runs); ends = i.ends; rests = i.rests }

-- a run does not go on past a byte that is no digit
pub stops : (ds : List ℕ) {es : List ℕ} → Run es → (b : ℕ) (r t : List ℕ) → (Digit b → ⊥) → ds ++ b ∷ r ≡ es ++ t → length es ≤ length ds
stops ds end b r t nb e = zero-le
stops [] (more d q) b r t nb e = let h = cons_head e in absurd (nb (rw h d))
stops (x ∷ ds) (more d q) b r t nb e = let i = stops ds q b r t nb (cons_tail e) in omega arith

-- ---- lengths

digits-short : (k n j : ℕ) → n < 10 ^ suc j → length (digits k n) ≤ suc j
unfolding digits
digits-short zero n j h = omega arith
digits-short (suc k) n zero h = rw (digits-small (suc k) n (omega arith)) (omega arith)
digits-short (suc k) n (suc j) h = elim (lt-or n 10) [
  | inl t ↦ rw (digits-small (suc k) n t) (omega arith)
  | inr t ↦
      let e : 10 ^ suc (suc j) ≡ 10 ^ suc j * 10 = pow-suc 10 (suc j) in
      let i = digits-short k (n / 10) j (omega (arith, e)) in
      rw (digits_large k n t, length-append) (omega arith)
]

-- no print is longer than its room
digits-room : (k n : ℕ) → length (digits k n) ≤ suc k
unfolding digits
digits-room zero n = omega arith
digits-room (suc k) n = elim (lt-or n 10) [
  | inl t ↦ rw (digits-small (suc k) n t) (omega arith)
  | inr t ↦ let i = digits-room k (n / 10) in rw (digits_large k n t, length-append) (omega arith)
]

ten_pos : (j : ℕ) → 0 < 10 ^ j
ten_pos zero = omega arith
ten_pos (suc j) = let e : 10 ^ suc j ≡ 10 ^ j * 10 = pow-suc 10 j in let i = ten_pos j in omega (arith, e)

under_ten : (n p : ℕ) → n < 10 → 0 < p → p * 10 ≤ n → ⊥
under_ten n p a b c = omega arith

digits_long : (k n j : ℕ) → n < 10 ^ suc k → 10 ^ j ≤ n → j < length (digits k n)
unfolding digits
digits_long zero n zero h g = omega arith
digits_long zero n (suc j) h g =
    let e : 10 ^ suc j ≡ 10 ^ j * 10 = pow-suc 10 j in
    absurd (under_ten n (10 ^ j) (omega arith) (ten_pos j) (omega (arith, e)))
digits_long (suc k) n zero h g = elim (lt-or n 10) [
  | inl t ↦ rw (digits-small (suc k) n t) (omega arith)
  | inr t ↦ rw (digits_large k n t, length-append) (omega arith)
]
digits_long (suc k) n (suc j) h g = elim (lt-or n 10) [
  | inl t ↦ let e : 10 ^ suc j ≡ 10 ^ j * 10 = pow-suc 10 j in absurd (under_ten n (10 ^ j) t (ten_pos j) (omega (arith, e)))
  | inr t ↦
      let e : 10 ^ suc j ≡ 10 ^ j * 10 = pow-suc 10 j in
      let f : 10 ^ suc (suc k) ≡ 10 ^ suc k * 10 = pow-suc 10 (suc k) in
      let i = digits_long k (n / 10) j (omega (arith, f)) (omega (arith, e)) in
      rw (digits_large k n t, length-append) (omega arith)
]

pub dec-short : (n : ℕ) → n < 1000000000 → length (dec n) ≤ 9
unfolding dec
dec-short n h = digits-short 19 n 8 (omega arith)

pub dec_long : (n : ℕ) → n < 1000000000 → 100000000 ≤ n → 9 ≤ length (dec n)
unfolding dec
dec_long n h g = let i = digits_long 19 n 8 (omega arith) (omega arith) in omega arith

pub dec-room : (n : ℕ) → length (dec n) ≤ 20
unfolding dec
dec-room n = digits-room 19 n

-- ---- no needless zero: a print that begins with 0 is that of 0

digits-some : (k n : ℕ) → 0 < length (digits k n)
unfolding digits
digits-some zero n = omega arith
digits-some (suc k) n = elim (lt-or n 10) [
  | inl t ↦ rw (digits-small (suc k) n t) (omega arith)
  | inr t ↦ rw (digits_large k n t, length-append) (omega arith)
]

digits-zero : (k n : ℕ) → n < 10 ^ suc k → get_or (digits k n) 0 0 ≡ 48 → n ≡ 0
unfolding digits
digits-zero zero n h e = omega arith
digits-zero (suc k) n h e = elim (lt-or n 10) [
  | inl t ↦ let e' = rw (digits-small (suc k) n t) at e in omega arith
  | inr t ↦
      let f : 10 ^ suc (suc k) ≡ 10 ^ suc k * 10 = pow-suc 10 (suc k) in
      let e' = rw (digits_large k n t, get_or-append (digits k (n / 10)) ((48 + n % 10) ∷ []) 0 0 (digits-some k (n / 10))) at e in
      let i = digits-zero k (n / 10) (omega (arith, f)) e' in
      omega arith
]

pub dec-zero : (n : ℕ) → n < 1000000000 → get_or (dec n) 0 0 ≡ 48 → n ≡ 0
unfolding dec
dec-zero n h e = digits-zero 19 n (omega arith) e

pub dec_some : (n : ℕ) → 0 < length (dec n)
unfolding dec
dec_some n = digits-some 19 n

-- ---- the number that digits say

unfoldable pub value : ℕ → List ℕ → ℕ
value a [] = a
value a (b ∷ l) = value (a * 10 + (b - 48)) l

value_snoc : (a : ℕ) (l : List ℕ) (b : ℕ) → value a (l ++ (b ∷ [])) ≡ value a l * 10 + (b - 48)
unfolding value
value_snoc a [] b = refl
value_snoc a (x ∷ l) b = value_snoc (a * 10 + (x - 48)) l b

value-digits : (k n : ℕ) → n < 10 ^ suc k → value 0 (digits k n) ≡ n
unfolding value
value-digits zero n h = rw (digits-small 0 n (omega arith)) (omega arith)
value-digits (suc k) n h = elim (lt-or n 10) [
  | inl t ↦ rw (digits-small (suc k) n t) (omega arith)
  | inr t ↦
      let p : 10 ^ suc (suc k) ≡ 10 ^ suc k * 10 = pow-suc 10 (suc k) in
      rw (digits_large k n t, value_snoc 0 (digits k (n / 10)) (48 + n % 10), value-digits k (n / 10) (omega (arith, p))) (omega arith)
]

-- what is printed of a number of 64 bits says that number
pub dec-value : (n : ℕ) → n < 2 ^ 64 → value 0 (dec n) ≡ n
unfolding dec
dec-value n h = value-digits 19 n (omega arith)

-- so two that are printed alike are equal
pub dec-same : (n m : ℕ) → n < 2 ^ 64 → m < 2 ^ 64 → dec n ≡ dec m → n ≡ m
dec-same n m a b e = sym (dec-value n a) ∙ ap (value 0) e ∙ dec-value m b
