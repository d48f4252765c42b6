-- Laws of appending to a lent list, one entry, one turn of a loop or one list after the other. Assumes nothing.
use mathlib.Core.Path.{◌≡◌, refl, sym, ap, ◌∙◌}
use mathlib.Core.List.{List, [], ◌∷◌, ◌++◌, append-nil}
use Prim.Native.Nat.{ℕ, suc, ◌+◌, ◌*◌, ◌≤◌, ◌<◌}
use native.Mathlib.Nat.{add-zero, add_assoc, suc-add, add-suc, suc-mul, le_antisymm, mul-le-mul_right}
use native.Mathlib.Numerals.{add-one}
use native.Mathlib.Omega.{arith}
use lib.ListN.{length, get_or, set, take, drop, length-append, drop_of_length-le}
use lib.Seq.{sets, sets-eq, length-sets, take-suc, take-length, take-append_seam, length-take-le}
use Rattle.laws.specs.Ranges.{each}
use Rattle.laws.specs.Written.{Written, Within}
use Rattle.laws.proofs.Ranges.{each_more, each-le}

module _ {A : Type 0} where
  -- one after the other
  pub sets_append : (xs l : List A) (n : ℕ) (ys : List A) → sets (sets l n xs) (n + length xs) ys ≡ sets l n (xs ++ ys)
  sets_append [] l n ys = rw add-zero
  sets_append (x ∷ xs) l n ys = rw (add-suc, ← suc-add) (sets_append xs (set l n x) (suc n) ys)

  pub written_none : (l : List A) (n : ℕ) → Written l n [] l n
  written_none l n = record { buf = refl; next = sym (add-zero n) }

  pub written_one : (l : List A) (n : ℕ) (x : A) → Written l n (x ∷ []) (set l n x) (n + 1)
  written_one l n x = record { buf = refl; next = refl }

  pub written-more : {l l' l'' xs ys : List A} {n n' n'' : ℕ} → Written l n xs l' n' → Written l' n' ys l'' n'' → Written l n (xs ++ ys) l'' n''
  written-more {l} {l'} {l''} {xs} {ys} {n} {n'} {n''} p q =
      record {
        buf = q.buf ∙ rw (p.buf, p.next) (sets_append xs l n ys);
        next = q.next ∙ rw (p.next, length-append) (add_assoc n (length xs) (length ys));
      }

  pub written-length : {l l' vs : List A} {n n' : ℕ} → Written l n vs l' n' → length l' ≡ length l
  written-length {l} {l'} {vs} {n} p = ap length p.buf ∙ length-sets l n vs

  -- the buffer and the next place are determined
  pub written_unique : {l vs l' l'' : List A} {n n' n'' : ℕ} → Written l n vs l' n' → Written l n vs l'' n'' → (l' ≡ l'') × (n' ≡ n'')
  written_unique p q = (p.buf ∙ sym q.buf, p.next ∙ sym q.next)

  -- in plain words, where there is room: what was before n, the new entries, what was after them
  pub written-plain : {l vs l' : List A} {n n' : ℕ} → Written l n vs l' n' → n + length vs ≤ length l → l' ≡ take n l ++ vs ++ drop (n + length vs) l
  written-plain {l} {vs} {l'} {n} p h = p.buf ∙ sets-eq vs l n h

  -- a list written over from its first entry to its last
  pub written-whole : {l vs l' : List A} {n : ℕ} → Written l 0 vs l' n → n ≡ length l → l' ≡ vs
  written-whole {l} {vs} {l'} {n} p e =
      let q : length l ≡ 0 + length vs = sym e ∙ p.next in
      let all : length l ≤ 0 + length vs = omega arith in
      written-plain p (omega arith) ∙ ap (λ (r : List A). vs ++ r) (drop_of_length-le l all) ∙ append-nil vs

  -- the front of a list that begins with xs
  pub front_take : (xs l m : List A) (i : ℕ) → l ≡ sets m 0 xs → length xs ≤ length m → i ≡ length xs → take i l ≡ xs
  front_take xs l m i e h j =
      (λ x. take (j x) (e x)) ∙ ap (take (length xs)) (sets-eq xs m 0 (omega arith)) ∙ take-append_seam xs (drop (0 + length xs) m)

  pub within : (r : ℕ) (l : List A) → r ≤ length l → Within r l
  within r l h = (h, sym (length-take-le r l h))

  -- ---- a loop that appends f 0, then f 1, ..

  pub written-turn : {l l' l'' : List A} (f : ℕ → List A) (k : ℕ) {n n' n'' : ℕ} → Written l n (each k f) l' n' → Written l' n' (f k) l'' n'' → Written l n (each (k + 1) f) l'' n''
  written-turn f k p q = rw each_more (written-more p q)

  pub written-done : {l l' : List A} (f : ℕ → List A) (k m : ℕ) {n n' : ℕ} → Written l n (each k f) l' n' → k ≤ m → m ≤ k → Written l n (each m f) l' n'
  written-done f k m p h h' = rw (le_antisymm h' h) p

  -- room for one turn more, where there is room for m turns that append b each at most
  pub written-room : {l l' : List A} (f : ℕ → List A) (b : ℕ) → ((k : ℕ) → length (f k) ≤ b) → (k m : ℕ) {n n' : ℕ} → Written l n (each k f) l' n' → k < m → n + m * b ≤ length l → n' + b ≤ length l'
  written-room f b h k m p i r = omega (arith, each-le b k f h, p.next, written-length p, turns_end k m b i)
    where
      turns_end : (k m b : ℕ) → k < m → k * b + b ≤ m * b
      turns_end k m b h = rw suc-mul at (mul-le-mul_right b h)

  -- ---- a loop that copies the entries of t one by one

  pub copy_turn : (d : A) (l l' : List A) (at : ℕ) (t : List A) (k : ℕ) → k < length t → l' ≡ sets l at (take k t) → set l' (at + k) (get_or t k d) ≡ sets l at (take (k + 1) t)
  copy_turn d l l' at t k h e =
      let n : length (take k t) ≡ k = length-take-le k t (omega arith) in
      let a : sets (sets l at (take k t)) (at + length (take k t)) (get_or t k d ∷ []) ≡ sets l at (take k t ++ get_or t k d ∷ []) = sets_append (take k t) l at (get_or t k d ∷ []) in
      let b : set (sets l at (take k t)) (at + k) (get_or t k d) ≡ sets l at (take k t ++ get_or t k d ∷ []) = rw n at a in
      rw (e, add-one k, take-suc t k d h) b

  pub copy_done : (l l' : List A) (at : ℕ) (t : List A) (k : ℕ) → k ≤ length t → length t ≤ k → l' ≡ sets l at (take k t) → Written l at t l' (at + k)
  copy_done l l' at t k a b e =
      let q : k ≡ length t = le_antisymm a b in
      record { buf = e ∙ rw (q, take-length); next = rw q }
