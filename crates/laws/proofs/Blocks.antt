-- Lists in equally long blocks: the block at a number, an entry of it, and a list cut into its blocks. Assumes nothing.
use mathlib.Core.Path.{◌≡◌, refl, sym, ap, ◌∙◌}
use mathlib.Core.List.{List, [], ◌∷◌, ◌++◌, append_assoc, append-nil}
use Prim.Native.Nat.{ℕ, zero, suc, ◌+◌, ◌-◌, ◌*◌, ◌≤◌, ◌<◌}
use native.Mathlib.Nat.{suc-mul, zero-mul}
use native.Mathlib.Omega.{arith}
use lib.ListN.{length, get_or, take, drop, length-append}
use lib.Seq.{take-add, drop-drop, take_at, drop_at, take-take, get_or-take, get_or-drop, drop-cons}
use Rattle.laws.specs.Ranges.{each}
use Rattle.laws.proofs.Ranges.{each-split}

module _ {A : Type 0} where
  pub each-length : (b n : ℕ) (f : ℕ → List A) → ((i : ℕ) → length (f i) ≡ b) → length (each n f) ≡ n * b
  unfolding each
  each-length b zero f h = sym (zero-mul b)
  each-length b (suc n) f h = rw (length-append, suc-mul, each-length b n f h, h n)

  -- block k of n, wherever they stand
  pub block_at : (b n : ℕ) (f : ℕ → List A) → ((i : ℕ) → length (f i) ≡ b) → (s front rest : List A) (at k : ℕ) → s ≡ front ++ (each n f ++ rest) → length front ≡ at → k < n
      → take b (drop (at + k * b) s) ≡ f k
  block_at b n f h s front rest at k e g l =
      let r : n ≡ k + suc (n - suc k) = omega arith in
      let a : each n f ≡ each k f ++ (f k ++ each (n - suc k) (λ i. f (k + suc i))) = ap (λ (m : ℕ). each m f) r ∙ each-split k (n - suc k) f in
      let tail = each (n - suc k) (λ i. f (k + suc i)) ++ rest in
      let w : s ≡ (front ++ each k f) ++ (f k ++ tail) = e ∙ rw a (simp append_assoc) in
      let m : length (front ++ each k f) ≡ at + k * b = rw (length-append, g, each-length b k f h) in
      ap (take b) (ap (drop (at + k * b)) w ∙ drop_at (front ++ each k f) (f k ++ tail) (at + k * b) m) ∙ take_at (f k) tail b (h k)

  -- entry j of block k
  pub block_entry : (d : A) (b n : ℕ) (f : ℕ → List A) → ((i : ℕ) → length (f i) ≡ b) → (k j : ℕ) → k < n → j < b → get_or (each n f) (k * b + j) d ≡ get_or (f k) j d
  block_entry d b n f h k j l m =
      let e = block_at b n f h (each n f) [] [] 0 k (sym (append-nil (each n f))) refl l in
      let q : 0 + k * b ≡ k * b = omega arith in
      sym (get_or-drop (k * b) (each n f) j d) ∙ sym (get_or-take b (drop (k * b) (each n f)) j d m) ∙ ap (λ (x : List A). get_or x j d) (ap (λ (i : ℕ). take b (drop i (each n f))) (sym q) ∙ e)

  -- the blocks of a list, joined
  pub blocks : (b n at : ℕ) (s : List A) → each n (λ k. take b (drop (at + k * b) s)) ≡ take (n * b) (drop at s)
  unfolding each
  blocks b zero at s = rw zero-mul
  blocks b (suc n) at s = rw (blocks b n at s, suc-mul, take-add (n * b) b (drop at s), drop-drop)

  -- a part of a part
  pub part_of : (i m n : ℕ) (x : List A) → i + m ≤ n → take m (drop i (take n x)) ≡ take m (drop i x)
  part_of zero m n x h = take-take m n x (omega arith)
  part_of (suc i) m zero x h = absurd (omega arith)
  part_of (suc i) m (suc n) [] h = refl
  part_of (suc i) m (suc n) (a ∷ x) h = part_of i m n x (omega arith)

  -- three entries in a row
  pub three : (d : A) (l : List A) (p : ℕ) → p + 3 ≤ length l → take 3 (drop p l) ≡ get_or l p d ∷ get_or l (p + 1) d ∷ get_or l (p + 2) d ∷ []
  three d l p h =
      let a : p + 1 ≡ suc p = omega arith in
      let b : p + 2 ≡ suc (suc p) = omega arith in
      rw (a, b, drop-cons l p d (omega arith), drop-cons l (suc p) d (omega arith), drop-cons l (suc (suc p)) d (omega arith))
