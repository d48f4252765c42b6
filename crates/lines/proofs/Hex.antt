-- Laws of hex digits: a digit and its value, how many there are, one more, and that they say the number. Assumes nothing.
use mathlib.Core.Path.{◌≡◌, refl, sym, ap, ◌∙◌}
use mathlib.Core.Logic.{inl, inr}
use mathlib.Core.List.{[], ◌∷◌, ◌++◌}
use Prim.Native.Nat.{ℕ, zero, suc, ◌+◌, ◌-◌, ◌*◌, ◌/◌, ◌%◌, ◌^◌, ◌≤◌, ◌<◌}
use native.Mathlib.Nat.{add-zero, pow-suc, not-suc-le-zero}
use native.Mathlib.Omega.{arith}
use lib.ListN.{length, get_or, length-append, get_or-append}
use lib.Seq.{get_or_at}
use borrow.Author.Tests.{lt-ltb, le-ltb}
use Rattle.laws.proofs.Lists.{append-apart}
use Rattle.laws.proofs.Ranges.{lt-or}
use Rattle.std.specs.Prelude.{Some, None}
use Rattle.lines.specs.Numbers.{hex_digit, hex}
use Rattle.lines.specs.Inner.Readers.{hex_val}

-- ---- one digit

pub val_digit : (d : ℕ) → d < 16 → hex_val (hex_digit d) ≡ Some d
unfolding hex_digit hex_val
val_digit d h = elim (lt-or d 10) [
  | inl t ↦
      let e : 48 + d - 48 ≡ d = omega arith in
      rw (lt-ltb d 10 t, le-ltb (48 + d) 48 (omega arith), lt-ltb (48 + d) 58 (omega arith)) (ap Some e)
  | inr t ↦
      let e : 87 + d - 87 ≡ d = omega arith in
      rw (le-ltb d 10 t, le-ltb (87 + d) 48 (omega arith), le-ltb (87 + d) 58 (omega arith), le-ltb (87 + d) 97 (omega arith), lt-ltb (87 + d) 103 (omega arith)) (ap Some e)
]

-- what a byte with a value is: a digit below 16, printed as that byte
pub record DigitOf (b d : ℕ) : Type 0 where
  pub small : d < 16
  pub print : hex_digit d ≡ b

pub val_is : (b d : ℕ) → hex_val b ≡ Some d → DigitOf b d
unfolding hex_digit hex_val
val_is b d h = elim (lt-or b 48) [
  | inl t ↦ let h' = rw (lt-ltb b 48 t) at h in cc
  | inr t ↦ elim (lt-or b 58) [
    | inl u ↦
        let h' = rw (le-ltb b 48 t, lt-ltb b 58 u) at h in
        let f : b - 48 ≡ d = cc in
        let e : 48 + d ≡ b = omega arith in
        record { small = omega arith; print = rw (lt-ltb d 10 (omega arith)) e }
    | inr u ↦ elim (lt-or b 97) [
      | inl v ↦ let h' = rw (le-ltb b 48 t, le-ltb b 58 u, lt-ltb b 97 v) at h in cc
      | inr v ↦ elim (lt-or b 103) [
        | inl w ↦
            let h' = rw (le-ltb b 48 t, le-ltb b 58 u, le-ltb b 97 v, lt-ltb b 103 w) at h in
            let f : b - 87 ≡ d = cc in
            let e : 87 + d ≡ b = omega arith in
            record { small = omega arith; print = rw (le-ltb d 10 (omega arith)) e }
        | inr w ↦ let h' = rw (le-ltb b 48 t, le-ltb b 58 u, le-ltb b 97 v, le-ltb b 103 w) at h in cc
      ]
    ]
  ]
]

-- ---- many digits

pub hex-length : (k n : ℕ) → length (hex k n) ≡ k
unfolding hex
hex-length zero n = refl
hex-length (suc k) n = rw (length-append, hex-length k (n / 16)) (omega arith)

pub hex-more : (k n d : ℕ) → d < 16 → hex (suc k) (n * 16 + d) ≡ hex k n ++ (hex_digit d ∷ [])
unfolding hex
hex-more k n d h =
    let q : (n * 16 + d) / 16 ≡ n = omega arith in
    let m : (n * 16 + d) % 16 ≡ d = omega arith in
    rw (q, m)

-- each byte of the print is a hex digit
pub hex_at : (k n j : ℕ) → j < k → hex_val (get_or (hex k n) j 0) ≡ None → ⊥
unfolding hex
hex_at zero n j h e = absurd (not-suc-le-zero h)
hex_at (suc k) n j h e = elim (lt-or j k) [
  | inl t ↦
      let g : get_or (hex k (n / 16) ++ (hex_digit (n % 16) ∷ [])) j 0 ≡ get_or (hex k (n / 16)) j 0 = get_or-append (hex k (n / 16)) (hex_digit (n % 16) ∷ []) 0 j (rw (hex-length k (n / 16)) t) in
      hex_at k (n / 16) j t (rw g at e)
  | inr t ↦
      let i : j ≡ k = omega arith in
      let v : Some (n % 16) ≡ None = sym (val_digit (n % 16) (omega arith)) ∙ (rw (i, get_or_at (hex k (n / 16)) (hex_digit (n % 16)) [] 0 k (hex-length k (n / 16))) at e) in
      cc
]

-- two numbers of k hex digits that are printed alike are equal
pub hex-same : (k n m : ℕ) → n < 16 ^ k → m < 16 ^ k → hex k n ≡ hex k m → n ≡ m
unfolding hex
hex-same zero n m a b e = omega arith
hex-same (suc k) n m a b e =
    let p : 16 ^ suc k ≡ 16 ^ k * 16 = pow-suc 16 k in
    let s = append-apart (hex k (n / 16)) (hex k (m / 16)) (hex_digit (n % 16) ∷ []) (hex_digit (m % 16) ∷ []) (hex-length k (n / 16) ∙ sym (hex-length k (m / 16))) e in
    let l : hex_digit (n % 16) ≡ hex_digit (m % 16) = ap (λ x. get_or x 0 0) s.1 in
    let i : n / 16 ≡ m / 16 = hex-same k (n / 16) (m / 16) (omega (arith, p)) (omega (arith, p)) s.0 in
    let v : Some (n % 16) ≡ Some (m % 16) = sym (val_digit (n % 16) (omega arith)) ∙ ap hex_val l ∙ val_digit (m % 16) (omega arith) in
    let j : n % 16 ≡ m % 16 = cc in
    omega (arith, i, j)

-- ---- sizes

-- a number of k digits and a digit more
pub fits : (k n d : ℕ) → n < 16 ^ k → d < 16 → n * 16 + d < 16 ^ suc k
fits k n d g b = let e : 16 ^ suc k ≡ 16 ^ k * 16 = pow-suc 16 k in omega (arith, e)

pow-up : (j k : ℕ) → 16 ^ k ≤ 16 ^ (k + j)
pow-up zero k = rw add-zero (omega arith)
pow-up (suc j) k =
    let i = pow-up j k in
    let e : 16 ^ suc (k + j) ≡ 16 ^ (k + j) * 16 = pow-suc 16 (k + j) in
    let f : k + suc j ≡ suc (k + j) = omega arith in
    rw f (omega (arith, e))

pub small_word : (k n : ℕ) → k ≤ 16 → n < 16 ^ k → n < 2 ^ 64
small_word k n h g =
    let e : k + (16 - k) ≡ 16 = omega arith in
    let u : 16 ^ k ≤ 16 ^ (k + (16 - k)) = pow-up (16 - k) k in
    let u' : 16 ^ k ≤ 16 ^ 16 = rw e at u in
    omega arith
