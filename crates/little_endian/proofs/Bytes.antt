-- Laws of bytes: a number and its bytes, both ways, once over how many; and bytes read at a place. Assumes nothing.
use mathlib.Core.Path.{◌≡◌, refl, sym, ap, ap₂, ◌∙◌}
use mathlib.Core.List.{List, [], ◌∷◌, ◌++◌, append_assoc}
use Prim.Native.Nat.{ℕ, zero, suc, ◌+◌, ◌-◌, ◌*◌, ◌/◌, ◌%◌, ◌^◌, ◌≤◌, ◌<◌}
use native.Mathlib.Nat.{div-div-eq-div-mul, mul_assoc}
use native.Mathlib.Omega.{arith}
use lib.ListN.{length, get_or, take, drop, length-drop}
use lib.Seq.{sets, sets-eq, take_all, take-suc, take-append_seam, length-take-le}
use borrow.Rule.Slice.PartMut.{put_mid, Post-is}
use Rattle.std.specs.Int.{byte_at, byte_worth, bytes_low_first, sum_through}
use Rattle.laws.specs.Lists.{All}
use Rattle.laws.proofs.Lists.{all-take-more, all-drop-more}
use Rattle.laws.specs.Written.{Written}
use Rattle.little_endian.specs.Bytes.{bytes_of, value_of, number_at, Bytes}

pub bytes_length : (k n : ℕ) → length (bytes_of k n) ≡ k
unfolding bytes_of
bytes_length zero n = refl
bytes_length (suc k) n = ap suc (bytes_length k (n / 256))

pub value_bytes : (k n : ℕ) → n < 256 ^ k → value_of (bytes_of k n) ≡ n
unfolding bytes_of value_of
value_bytes zero n h = omega arith
value_bytes (suc k) n h =
    let q : n / 256 < 256 ^ k = omega arith in
    let e = value_bytes k (n / 256) q in
    omega arith

pub bytes_value : (bs : List ℕ) → Bytes bs → bytes_of (length bs) (value_of bs) ≡ bs
unfolding bytes_of value_of All
bytes_value [] a = refl
bytes_value (b ∷ bs) a =
    let h = a.0 in
    let q : (b + 256 * value_of bs) / 256 ≡ value_of bs = omega arith in
    let r : (b + 256 * value_of bs) % 256 ≡ b = omega arith in
    ap₂ ◌∷◌ r (ap (bytes_of (length bs)) q ∙ bytes_value bs a.1)

pub bytes_more : (j k n : ℕ) → bytes_of (j + k) n ≡ bytes_of j n ++ bytes_of k (n / 256 ^ j)
unfolding bytes_of
bytes_more zero k n =
    let a : 0 + k ≡ k = omega arith in
    let b : n ≡ n / 1 = omega arith in
    λ i. bytes_of (a i) (b i)
bytes_more (suc j) k n =
    let a : suc j + k ≡ suc (j + k) = omega arith in
    let b : n / 256 / 256 ^ j ≡ n / (256 * 256 ^ j) = div-div-eq-div-mul n 256 (256 ^ j) in
    let c : 256 * 256 ^ j ≡ 256 ^ suc j = omega arith in
    ap (λ (m : ℕ). bytes_of m n) a ∙ ap (λ (l : List ℕ). n % 256 ∷ l) (bytes_more j k (n / 256) ∙ ap (λ (m : ℕ). bytes_of j (n / 256) ++ bytes_of k m) (b ∙ ap (λ (m : ℕ). n / m) c))

-- two rows of bytes
pub value-more : (xs ys : List ℕ) → value_of (xs ++ ys) ≡ value_of xs + 256 ^ length xs * value_of ys
unfolding value_of
value-more [] ys = omega arith
value-more (x ∷ xs) ys =
    let p : 256 ^ suc (length xs) ≡ 256 * 256 ^ length xs = omega arith in
    let a : 256 ^ suc (length xs) * value_of ys ≡ 256 * (256 ^ length xs * value_of ys) = rw p (mul_assoc 256 (256 ^ length xs) (value_of ys)) in
    omega (arith, value-more xs ys)

pub value-less : (bs : List ℕ) → Bytes bs → value_of bs < 256 ^ length bs
unfolding value_of All
value-less [] a = omega arith
value-less (b ∷ bs) a =
    let p : 256 ^ suc (length bs) ≡ 256 * 256 ^ length bs = omega arith in
    rw p (omega (arith, a.0, value-less bs a.1))

-- ---- bytes at a place

-- what stands there is the bytes of that number
pub bytes_there : (k : ℕ) (s : List ℕ) (p : ℕ) → Bytes s → p + k ≤ length s → bytes_of k (number_at k s p) ≡ take k (drop p s)
unfolding number_at
bytes_there k s p a h =
    let l : length (take k (drop p s)) ≡ k = length-take-le k (drop p s) (rw length-drop (omega arith)) in
    let b : Bytes (take k (drop p s)) = all-take-more (λ b. b < 256) (drop p s) k (all-drop-more (λ b. b < 256) s p a) in
    rw l at (bytes_value (take k (drop p s)) b)

pub number-less : (k : ℕ) (s : List ℕ) (p : ℕ) → Bytes s → p + k ≤ length s → number_at k s p < 256 ^ k
unfolding number_at
number-less k s p a h =
    let l : length (take k (drop p s)) ≡ k = length-take-le k (drop p s) (rw length-drop (omega arith)) in
    let b : Bytes (take k (drop p s)) = all-take-more (λ b. b < 256) (drop p s) k (all-drop-more (λ b. b < 256) s p a) in
    rw l at (value-less (take k (drop p s)) b)

-- the number of bytes that stand there
pub number-there : (k : ℕ) (s : List ℕ) (p n : ℕ) → n < 256 ^ k → take k (drop p s) ≡ bytes_of k n → number_at k s p ≡ n
unfolding number_at
number-there k s p n h e = ap value_of e ∙ value_bytes k n h

-- ---- the library's words for the same: `to_le_bytes`, `from_le_bytes` and a part of a slice

low_first : (i k n : ℕ) → bytes_low_first i k n ≡ bytes_of k (n / 256 ^ i)
unfolding bytes_of
low_first i zero n = refl
low_first i (suc k) n = ap₂ ◌∷◌ (lowest i) (low_first (suc i) k n ∙ ap (bytes_of k) next)
  where
    lowest : (i : ℕ) → byte_at i n ≡ n / 256 ^ i % 256
    lowest zero = omega arith
    lowest (suc i) = refl

    next : n / 256 ^ suc i ≡ n / 256 ^ i / 256
    next =
        let e : 256 ^ suc i ≡ 256 ^ i * 256 = omega arith in
        ap (λ (m : ℕ). n / m) e ∙ sym (div-div-eq-div-mul n (256 ^ i) 256)

low_bytes : (k n : ℕ) → bytes_low_first 0 k n ≡ bytes_of k n
low_bytes k n = let e : n / 1 ≡ n = omega arith in low_first 0 k n ∙ ap (bytes_of k) e

-- the first k of the eight bytes
pub low_take : (k n : ℕ) → k ≤ 8 → take k (bytes_low_first 0 8 n) ≡ bytes_of k n
low_take k n h =
    let e : 8 ≡ k + (8 - k) = omega arith in
    let l : length (bytes_of k n) ≡ k = bytes_length k n in
    ap (take k) (low_bytes 8 n ∙ ap (λ (m : ℕ). bytes_of m n) e ∙ bytes_more k (8 - k) n)
    ∙ ap (λ (m : ℕ). take m (bytes_of k n ++ bytes_of (8 - k) (n / 256 ^ k))) (sym l) ∙ take-append_seam (bytes_of k n) (bytes_of (8 - k) (n / 256 ^ k))

low_sum : (l : List ℕ) (k : ℕ) → k < length l → sum_through (λ i. byte_worth i (get_or l i 0)) k ≡ value_of (take (suc k) l)
unfolding value_of
low_sum l zero h = rw (take-suc l 0 0 h) (omega arith)
low_sum l (suc k) h =
    let e : length (take (suc k) l) ≡ suc k = length-take-le (suc k) l (omega arith) in
    let m = value-more (take (suc k) l) (get_or l (suc k) 0 ∷ []) in
    rw (take-suc l (suc k) 0 h) (omega (arith, low_sum l k (omega arith), rw e at m))

-- the number of the bytes that were copied
pub number_copied : (k : ℕ) (s bs : List ℕ) (at : ℕ) → at + suc k ≤ length s → bs ≡ take (at + suc k - at) (drop at s) → sum_through (λ i. byte_worth i (get_or bs i 0)) k ≡ number_at (suc k) s at
unfolding number_at
number_copied k s bs at h e =
    let c : at + suc k - at ≡ suc k = omega arith in
    let b : bs ≡ take (suc k) (drop at s) = rw c at e in
    let l : length (take (suc k) (drop at s)) ≡ suc k = length-take-le (suc k) (drop at s) (rw length-drop (omega arith)) in
    let n : length bs ≡ suc k = ap length b ∙ l in
    low_sum bs k (omega arith) ∙ ap value_of (take_all (suc k) bs (omega arith) ∙ b)

-- bytes that were copied into a part
pub put_bytes : (k : ℕ) (l bs : List ℕ) (at w : ℕ) → at + k ≤ length l → bs ≡ bytes_of k w → Written l at (bytes_of k w) (put_mid at (at + k - at) l bs) (at + k)
put_bytes k l bs at w h e =
    let n : length (bytes_of k w) ≡ k = bytes_length k w in
    let behind = Post-is at (at + k) l (omega arith) in
    let stored : sets l at (bytes_of k w) ≡ take at l ++ bytes_of k w ++ drop (at + length (bytes_of k w)) l = sets-eq (bytes_of k w) l at (omega arith) in
    let parts = rw n at stored ∙ append_assoc (take at l) (bytes_of k w) (drop (at + k) l) in
    record { buf = rw (behind, e) (sym parts); next = rw n }
