-- The laws of the bit operations digit by digit, the lowest set digit, and how many digits are set.
-- `and` is `min`, `or` is `max`, `xor` the sum modulo 2, so that `omega` does the algebra of sets. Assumes nothing.
use mathlib.Core.Path.{◌≡◌, refl, sym, ap, ap₂, ◌∙◌, subst}
use mathlib.Core.Bool.{Bool, true, false, ◌||◌}
use mathlib.Core.Logic.{◌⊎◌, inl, inr, ⊎_elim}
use Prim.Native.Nat.{ℕ, zero, suc, ◌+◌, ◌-◌, ◌*◌, ◌/◌, ◌%◌, ◌^◌, ◌≤◌, ◌<◌, min, max}
use native.Mathlib.Nat.{pow-suc, not-suc-le-zero}
use native.Mathlib.Omega.{arith}
use borrow.Author.Tests.{eq-eqb, ne_eqb}
use lib.Dec.{eqb}
use lib.Bits.{bit_and, bit_or, bit_xor, and_step, or_step, xor_step, differ, and_lt, xor_lt}
use lib.Count.{count_trailing_zeros, under, ones, ones_in, ones_step}
use lib.Pow.{pow-lt}
use Rattle.laws.specs.Bools.{bit}
use Rattle.laws.specs.Digits.{digit, is_set, mask}
use Rattle.laws.proofs.Bools.{bit_le}
use Rattle.laws.proofs.Ranges.{lt-or, eq-or}

pub digit_lt : (m e : ℕ) → digit m e < 2
unfolding digit
digit_lt m zero = omega arith
digit_lt m (suc e) = digit_lt (m / 2) e

two_cases : (d : ℕ) → d < 2 → (d ≡ 0) ⊎ (d ≡ 1)
two_cases zero h = inl refl
two_cases (suc zero) h = inr refl
two_cases (suc (suc d)) h = absurd (omega arith)

-- a digit is not set, or it is
pub digit-or-not : (m e : ℕ) → (digit m e ≡ 0) ⊎ (digit m e ≡ 1)
digit-or-not m e = two_cases (digit m e) (digit_lt m e)

parity : (x : ℕ) → (x % 2 ≡ 0) ⊎ (x % 2 ≡ 1)
parity x = two_cases (x % 2) (omega arith)

-- ---- the operations

half : (x c : ℕ) → c < 2 → (x * 2 + c) / 2 ≡ x
half x c h = omega arith

odd : (x c : ℕ) → c < 2 → (x * 2 + c) % 2 ≡ c
odd x c h = omega arith

two : (m : ℕ) → m % 2 < 2
two m = omega arith

min-lt : (x y : ℕ) → x < 2 → y < 2 → min x y < 2
min-lt x y p q = omega arith

max-lt : (x y : ℕ) → x < 2 → y < 2 → max x y < 2
max-lt x y p q = omega arith

differ_two : (x y : ℕ) → x < 2 → y < 2 → differ x y ≡ (x + y) % 2
differ_two zero y p q = omega arith
differ_two (suc zero) zero p q = refl
differ_two (suc zero) (suc zero) p q = refl
differ_two (suc zero) (suc (suc y)) p q = omega arith
differ_two (suc (suc x)) y p q = omega arith

-- an operation that works digit by digit, f on each: the digits of its result
by_digits : (op f : ℕ → ℕ → ℕ) → ((x y : ℕ) → x < 2 → y < 2 → f x y < 2)
    → ((a b : ℕ) → op a b ≡ op (a / 2) (b / 2) * 2 + f (a % 2) (b % 2))
    → (a b e : ℕ) → digit (op a b) e ≡ f (digit a e) (digit b e)
unfolding digit
by_digits op f lt step a b zero = ap (λ (x : ℕ). x % 2) (step a b) ∙ odd (op (a / 2) (b / 2)) (f (a % 2) (b % 2)) (lt (a % 2) (b % 2) (two a) (two b))
by_digits op f lt step a b (suc e) =
    ap (λ (x : ℕ). digit (x / 2) e) (step a b)
    ∙ ap (λ (x : ℕ). digit x e) (half (op (a / 2) (b / 2)) (f (a % 2) (b % 2)) (lt (a % 2) (b % 2) (two a) (two b)))
    ∙ by_digits op f lt step (a / 2) (b / 2) e

pub digit_and : (a b e : ℕ) → digit (bit_and a b) e ≡ min (digit a e) (digit b e)
digit_and a b e = by_digits bit_and min min-lt and_step a b e

pub digit_or : (a b e : ℕ) → digit (bit_or a b) e ≡ max (digit a e) (digit b e)
digit_or a b e = by_digits bit_or max max-lt or_step a b e

xor_two : (a b : ℕ) → bit_xor a b ≡ bit_xor (a / 2) (b / 2) * 2 + (a % 2 + b % 2) % 2
xor_two a b = xor_step a b ∙ ap (λ (x : ℕ). bit_xor (a / 2) (b / 2) * 2 + x) (differ_two (a % 2) (b % 2) (two a) (two b))

pub digit_xor : (a b e : ℕ) → digit (bit_xor a b) e ≡ (digit a e + digit b e) % 2
digit_xor a b e = by_digits bit_xor (λ x y. (x + y) % 2) (λ x y p q. two (x + y)) xor_two a b e

-- ---- single masks

pub digit-zero : (e : ℕ) → digit 0 e ≡ 0
unfolding digit
digit-zero zero = refl
digit-zero (suc e) = digit-zero e

pow-half : (e : ℕ) → 2 ^ suc e / 2 ≡ 2 ^ e
pow-half e = omega (arith, pow-suc 2 e)

pub digit-pow-same : (e : ℕ) → digit (2 ^ e) e ≡ 1
unfolding digit
digit-pow-same zero = refl
digit-pow-same (suc e) = ap (λ (x : ℕ). digit x e) (pow-half e) ∙ digit-pow-same e

pub digit-pow_other : (e f : ℕ) → (e ≡ f → ⊥) → digit (2 ^ e) f ≡ 0
unfolding digit
digit-pow_other zero zero h = absurd (h refl)
digit-pow_other zero (suc f) h = digit-zero f
digit-pow_other (suc e) zero h = omega (arith, pow-suc 2 e)
digit-pow_other (suc e) (suc f) h = ap (λ (x : ℕ). digit x f) (pow-half e) ∙ digit-pow_other e f (λ p. h (ap suc p))

-- ---- the length of a mask

half_lt : (k a : ℕ) → a < 2 ^ suc k → a / 2 < 2 ^ k
half_lt k a h = omega (arith, pow-suc 2 k)

-- no digit is set at or above the length
pub digit_high : (k a e : ℕ) → a < 2 ^ k → k ≤ e → digit a e ≡ 0
unfolding digit
digit_high zero a e h l = let z : a ≡ 0 = omega arith in ap (λ (x : ℕ). digit x e) z ∙ digit-zero e
digit_high (suc k) a zero h l = omega arith
digit_high (suc k) a (suc e) h l = digit_high k (a / 2) e (half_lt k a h) (omega arith)

-- a set digit stands below the length
pub digit-below : (k x t : ℕ) → x < 2 ^ k → digit x t ≡ 1 → t < k
digit-below k x t l s = ⊎_elim (λ h. h) (λ h. omega (arith, digit_high k x t l h)) (lt-or t k)

-- two masks of k digits with the same digits are equal
pub digit_ext : (k a b : ℕ) → a < 2 ^ k → b < 2 ^ k → ((e : ℕ) → e < k → digit a e ≡ digit b e) → a ≡ b
unfolding digit
digit_ext zero a b p q h = omega arith
digit_ext (suc k) a b p q h =
    let t : a / 2 ≡ b / 2 = digit_ext k (a / 2) (b / 2) (half_lt k a p) (half_lt k b q) (λ e l. h (suc e) (omega arith)) in
    let o : a % 2 ≡ b % 2 = h 0 (omega arith) in
    omega arith

pow_pos : (k : ℕ) → 0 < 2 ^ k
pow_pos zero = omega arith
pow_pos (suc k) = omega (arith, pow-suc 2 k, pow_pos k)

below-pow : (a : ℕ) → a < 2 ^ a
below-pow zero = omega arith
below-pow (suc a) = omega (arith, pow-suc 2 a, below-pow a)

-- a mask of k ones
pub digit-all : (k e : ℕ) → e < k → digit (2 ^ k - 1) e ≡ 1
unfolding digit
digit-all zero e h = absurd (not-suc-le-zero h)
digit-all (suc k) zero h = omega (arith, pow-suc 2 k, pow_pos k)
digit-all (suc k) (suc e) h = ap (λ (x : ℕ). digit x e) (half_ones k) ∙ digit-all k e (omega arith)
  where
    half_ones : (k : ℕ) → (2 ^ suc k - 1) / 2 ≡ 2 ^ k - 1
    half_ones k = omega (arith, pow-suc 2 k, pow_pos k)

-- a mask without a digit at or above k is one of k digits
pub digit-short : (k a : ℕ) → ((e : ℕ) → k ≤ e → digit a e ≡ 0) → a < 2 ^ k
unfolding digit
digit-short zero a h = let z : a ≡ 0 = digit_ext a a 0 (below-pow a) (omega (arith, below-pow a)) (λ e l. h e (omega arith) ∙ sym (digit-zero e)) in omega arith
digit-short (suc k) a h = omega (arith, pow-suc 2 k, digit-short k (a / 2) (λ e l. h (suc e) (omega arith)))

-- what is flipped twice is as it was
pub xor_back : (k a b : ℕ) → a < 2 ^ k → b < 2 ^ k → bit_xor (bit_xor a b) b ≡ a
xor_back k a b p q =
    digit_ext k (bit_xor (bit_xor a b) b) a (xor_lt k (bit_xor a b) b (xor_lt k a b p q) q) p
    (λ e l. digit_xor (bit_xor a b) b e ∙ omega (arith, digit_xor a b e, digit_lt a e, digit_lt b e))

-- a mask and the rest of k digits: at each place one of the two is set
pub digit_compl : (k m r e : ℕ) → suc (m + r) ≡ 2 ^ k → e < k → digit m e + digit r e ≡ 1
unfolding digit
digit_compl zero m r e h l = absurd (not-suc-le-zero l)
digit_compl (suc k) m r zero h l = omega (arith, pow-suc 2 k)
digit_compl (suc k) m r (suc e) h l =
    let s : suc (m / 2 + r / 2) ≡ 2 ^ k = omega (arith, pow-suc 2 k) in
    digit_compl k (m / 2) (r / 2) e s (omega arith)

-- ---- set or not, as a truth value

pub set-digit : (m e : ℕ) → is_set m e ≡ true → digit m e ≡ 1
unfolding is_set
set-digit m e h = ⊎_elim (λ z. absurd (clash (digit m e) z h)) (λ o. o) (digit-or-not m e)
  where
    clash : (d : ℕ) → d ≡ 0 → eqb d 1 ≡ true → ⊥
    clash zero z h = let f : ◌≡◌ {A = ℕ} 0 1 = cc in omega arith
    clash (suc d) z h = omega arith

pub digit_set : (m e : ℕ) → digit m e ≡ 1 → is_set m e ≡ true
unfolding is_set
digit_set m e h = eq-eqb (digit m e) 1 h

pub digit_unset : (m e : ℕ) → digit m e ≡ 0 → is_set m e ≡ false
unfolding is_set
digit_unset m e h = ne_eqb (digit m e) 1 (λ p. omega arith)

-- the digit is the truth value as a number
pub digit-is : (m e : ℕ) → digit m e ≡ bit (is_set m e)
unfolding bit
digit-is m e =
    ⊎_elim (λ z. z ∙ sym (ap bit (digit_unset m e z))) (λ o. o ∙ sym (ap bit (digit_set m e o))) (digit-or-not m e)

-- one more digit set
pub set-or-pow : (a b e : ℕ) → is_set (bit_or a (2 ^ b)) e ≡ is_set a e || eqb b e
set-or-pow a b e =
    ⊎_elim
    (λ p.
    digit_set (bit_or a (2 ^ b)) e (omega (arith, digit_or a (2 ^ b) e, ap (digit (2 ^ b)) (sym p) ∙ digit-pow-same b, digit_lt a e))
    ∙ sym (ap (λ (c : Bool). is_set a e || c) (eq-eqb b e p) ∙ last (is_set a e)))
    (λ n.
    let z : digit (2 ^ b) e ≡ 0 = digit-pow_other b e n in
    let s : digit (bit_or a (2 ^ b)) e ≡ digit a e = omega (arith, digit_or a (2 ^ b) e, z) in
    same s ∙ sym (ap (λ (c : Bool). is_set a e || c) (ne_eqb b e n) ∙ none (is_set a e))) (eq-or b e)
  where
    last : (c : Bool) → c || true ≡ true
    last true = refl
    last false = refl

    none : (c : Bool) → c || false ≡ c
    none true = refl
    none false = refl

    same : digit (bit_or a (2 ^ b)) e ≡ digit a e → is_set (bit_or a (2 ^ b)) e ≡ is_set a e
    same s = ⊎_elim (λ z. digit_unset (bit_or a (2 ^ b)) e (s ∙ z) ∙ sym (digit_unset a e z))
        (λ o. digit_set (bit_or a (2 ^ b)) e (s ∙ o) ∙ sym (digit_set a e o)) (digit-or-not a e)

-- ---- the lowest set digit

under_even : (x t : ℕ) → x % 2 ≡ 0 → under (x % 2) t ≡ suc t
under_even x t h = ap (λ (d : ℕ). under d t) h

under_odd : (x t : ℕ) → x % 2 ≡ 1 → under (x % 2) t ≡ 0
under_odd x t h = ap (λ (d : ℕ). under d t) h

-- in a mask that is not 0, the lowest set digit is set
pub low-set : (k x : ℕ) → 0 < x → x < 2 ^ k → digit x (count_trailing_zeros k x) ≡ 1
unfolding digit count_trailing_zeros
low-set zero x p h = omega arith
low-set (suc k) x p h =
    ⊎_elim
    (λ e. ap (digit x) (under_even x (count_trailing_zeros k (x / 2)) e) ∙ low-set k (x / 2) (omega arith) (half_lt k x h))
    (λ o. ap (digit x) (under_odd x (count_trailing_zeros k (x / 2)) o) ∙ o) (parity x)

-- and those below it are not
pub low-least : (k x j : ℕ) → j < count_trailing_zeros k x → digit x j ≡ 0
unfolding digit count_trailing_zeros
low-least zero x j l = absurd (not-suc-le-zero l)
low-least (suc k) x zero l = ⊎_elim (λ e. e) (λ o. omega (arith, under_odd x (count_trailing_zeros k (x / 2)) o)) (parity x)
low-least (suc k) x (suc j) l =
    ⊎_elim (λ e. low-least k (x / 2) j (omega (arith, under_even x (count_trailing_zeros k (x / 2)) e)))
    (λ o. omega (arith, under_odd x (count_trailing_zeros k (x / 2)) o)) (parity x)

pub low-lt : (k j x : ℕ) → 0 < x → x < 2 ^ k → x < 2 ^ j → count_trailing_zeros k x < j
low-lt k j x p h l = digit-below j x (count_trailing_zeros k x) l (low-set k x p h)

-- the lowest set digit of a power of two
pub low-pow : (k e : ℕ) → e < k → count_trailing_zeros k (2 ^ e) ≡ e
unfolding count_trailing_zeros
low-pow zero e h = absurd (not-suc-le-zero h)
low-pow (suc k) zero h = refl
low-pow (suc k) (suc e) h =
    let ev : 2 ^ suc e % 2 ≡ 0 = omega (arith, pow-suc 2 e) in
    under_even (2 ^ suc e) (count_trailing_zeros k (2 ^ suc e / 2)) ev
    ∙ ap (λ (x : ℕ). suc (count_trailing_zeros k x)) (pow-half e) ∙ ap suc (low-pow k e (omega arith))

-- a mask has no digit in common with its complement
compl : (k a b : ℕ) → suc (a + b) ≡ 2 ^ k → bit_and a b ≡ 0
compl zero a b h = let z : a ≡ 0 = omega arith in ap (λ (x : ℕ). bit_and x b) z
compl (suc k) a b h =
    let s : suc (a / 2 + b / 2) ≡ 2 ^ k = omega (arith, pow-suc 2 k) in
    let m : min (a % 2) (b % 2) ≡ 0 = omega (arith, pow-suc 2 k) in
    and_step a b ∙ omega (arith, compl k (a / 2) (b / 2) s)

-- negated modulo a power of two, it shares the lowest set digit alone: x & -x
pub and_neg : (k x r : ℕ) → 0 < x → 0 < r → x + r ≡ 2 ^ k → bit_and x r ≡ 2 ^ count_trailing_zeros k x
unfolding count_trailing_zeros
and_neg zero x r p q h = omega arith
and_neg (suc k) x r p q h =
    ⊎_elim
    (λ e.
    let s : x / 2 + r / 2 ≡ 2 ^ k = omega (arith, pow-suc 2 k) in
    let m : min (x % 2) (r % 2) ≡ 0 = omega arith in
    let ih : bit_and (x / 2) (r / 2) ≡ 2 ^ count_trailing_zeros k (x / 2) =
    and_neg k (x / 2) (r / 2) (omega arith) (omega (arith, pow-suc 2 k)) s in
    and_step x r
    ∙ omega (arith, ih, pow-suc 2 (count_trailing_zeros k (x / 2)))
    ∙ ap (λ (t : ℕ). 2 ^ t) (sym (under_even x (count_trailing_zeros k (x / 2)) e)))
    (λ o.
    let s : suc (x / 2 + r / 2) ≡ 2 ^ k = omega (arith, pow-suc 2 k) in
    let m : min (x % 2) (r % 2) ≡ 1 = omega (arith, pow-suc 2 k) in
    and_step x r
    ∙ omega (arith, compl k (x / 2) (r / 2) s)
    ∙ ap (λ (t : ℕ). 2 ^ t) (sym (under_odd x (count_trailing_zeros k (x / 2)) o))) (parity x)

-- with one taken off, it keeps all set digits but the lowest: x & (x - 1)
pub and-less : (k x : ℕ) → 0 < x → x < 2 ^ k → bit_and x (x - 1) ≡ bit_xor x (2 ^ count_trailing_zeros k x)
and-less k x p h =
    digit_ext k (bit_and x (x - 1)) (bit_xor x (2 ^ l)) (and_lt k x (x - 1) h (omega arith)) (xor_lt k x (2 ^ l) h (pow-lt (low-lt k k x p h h)))
    (λ e b. omega (
      arith,
      digit_and x (x - 1) e,
      digit_xor x (2 ^ l) e,
      sym (ap (λ (m : ℕ). digit m e) (and_neg k x (2 ^ k - x) p (omega arith) (omega arith))) ∙ digit_and x (2 ^ k - x) e,
      digit_compl k (x - 1) (2 ^ k - x) e (omega arith) b,
      digit_lt x e,
    ))
  where
    l : ℕ
    l = count_trailing_zeros k x

-- ---- the number of set digits, of the k lowest

pub ones_le : (k m : ℕ) → ones_in k m ≤ k
unfolding ones_in
ones_le zero m = omega arith
ones_le (suc k) m = omega (arith, two m, ones_le k (m / 2))

-- where the digits add up, so do the counts
pub ones_sum : (k a b c : ℕ) → ((e : ℕ) → digit a e + digit b e ≡ digit c e) → ones_in k a + ones_in k b ≡ ones_in k c
unfolding ones_in digit
ones_sum zero a b c h = refl
ones_sum (suc k) a b c h = omega (arith, h 0, ones_sum k (a / 2) (b / 2) (c / 2) (λ e. h (suc e)))

pub ones_sum3 : (k a b c d : ℕ) → ((e : ℕ) → digit a e + digit b e + digit c e ≡ digit d e) → ones_in k a + ones_in k b + ones_in k c ≡ ones_in k d
unfolding ones_in digit
ones_sum3 zero a b c d h = refl
ones_sum3 (suc k) a b c d h = omega (arith, h 0, ones_sum3 k (a / 2) (b / 2) (c / 2) (d / 2) (λ e. h (suc e)))

-- where of two masks each of the k lowest digits is in just one, they have k together
pub ones_all : (k a b : ℕ) → ((e : ℕ) → e < k → digit a e + digit b e ≡ 1) → ones_in k a + ones_in k b ≡ k
unfolding ones_in digit
ones_all zero a b h = refl
ones_all (suc k) a b h = omega (arith, h 0 (omega arith), ones_all k (a / 2) (b / 2) (λ e l. h (suc e) (omega arith)))

pub ones_zero : (k : ℕ) → ones_in k 0 ≡ 0
unfolding ones_in
ones_zero zero = refl
ones_zero (suc k) = omega (arith, ones_zero k)

pub ones_pow : (k e : ℕ) → e < k → ones_in k (2 ^ e) ≡ 1
unfolding ones_in
ones_pow zero e h = absurd (not-suc-le-zero h)
ones_pow (suc k) zero h = omega (arith, ones_zero k)
ones_pow (suc k) (suc e) h = omega (arith, pow-suc 2 e, ap (ones_in k) (pow-half e) ∙ ones_pow k e (omega arith))

pub ones_pos : (k m e : ℕ) → e < k → digit m e ≡ 1 → 0 < ones_in k m
unfolding ones_in digit
ones_pos zero m e h s = absurd (not-suc-le-zero h)
ones_pos (suc k) m zero h s = omega arith
ones_pos (suc k) m (suc e) h s = omega (arith, ones_pos k (m / 2) e (omega arith) s)

-- it goes by the k lowest digits, and higher ones count for nothing
ones_same : (k a b : ℕ) → ((e : ℕ) → e < k → digit a e ≡ digit b e) → ones_in k a ≡ ones_in k b
unfolding ones_in digit
ones_same zero a b h = refl
ones_same (suc k) a b h = omega (arith, h 0 (omega arith), ones_same k (a / 2) (b / 2) (λ e l. h (suc e) (omega arith)))

pub ones_low : (k m : ℕ) → ones_in k (bit_and m (2 ^ k - 1)) ≡ ones_in k m
ones_low k m = ones_same k (bit_and m (2 ^ k - 1)) m (λ e l. omega (arith, digit_and m (2 ^ k - 1) e, digit-all k e l, digit_lt m e))

-- the count is the language's own
none : ones_in 0 0 ≡ ones 0
unfolding ones ones_in
none = refl

pub ones_own : (k m : ℕ) → m < 2 ^ k → ones_in k m ≡ ones m
unfolding ones_in
ones_own zero m h = let z : 0 ≡ m = omega arith in subst (λ (x : ℕ). ones_in 0 x ≡ ones x) z none
ones_own (suc k) m h = omega (arith, ones_own k (m / 2) (half_lt k m h), ones_step m)

-- ---- the mask of the places that pass a test

pub low_bit_lem : (b x : ℕ) → b ≤ 1 → ((b + 2 * x) % 2 ≡ b) × ((b + 2 * x) / 2 ≡ x)
low_bit_lem b x h = (omega arith, omega arith)

pub mask-digit : (n : ℕ) (p : ℕ → Bool) (e : ℕ) → e < n → digit (mask n p) e ≡ bit (p e)
unfolding digit mask
mask-digit zero p e h = absurd (not-suc-le-zero h)
mask-digit (suc n) p zero h = (low_bit_lem (bit (p 0)) (mask n (λ e. p (suc e))) (bit_le (p 0))).0
mask-digit (suc n) p (suc e) h =
    ap (λ (x : ℕ). digit x e) (low_bit_lem (bit (p 0)) (mask n (λ e. p (suc e))) (bit_le (p 0))).1 ∙ mask-digit n (λ e. p (suc e)) e (omega arith)

pub mask_lt : (n : ℕ) (p : ℕ → Bool) → mask n p < 2 ^ n
unfolding mask
mask_lt zero p = omega arith
mask_lt (suc n) p = omega (arith, mask_lt n (λ e. p (suc e)), bit_le (p 0), pow-suc 2 n)

-- tests that agree make the same mask
pub mask-same : (n : ℕ) (p q : ℕ → Bool) → ((e : ℕ) → e < n → p e ≡ q e) → mask n p ≡ mask n q
unfolding mask
mask-same zero p q h = refl
mask-same (suc n) p q h =
    ap₂ (λ (b : Bool) (x : ℕ). bit b + 2 * x) (h 0 (omega arith)) (mask-same n (λ e. p (suc e)) (λ e. q (suc e)) (λ e l. h (suc e) (omega arith)))
