-- Parts of a slice that start anywhere: `&s[a..]` is `take (length s - a) (drop a s)`, and a lent part comes back by `put_mid`. Assumes nothing.
use mathlib.Core.Path.{◌≡◌, sym, ap, ◌∙◌}
use mathlib.Core.List.{List, [], ◌∷◌, ◌++◌, append-nil}
use Prim.Native.Nat.{ℕ, zero, suc, ◌-◌, ◌+◌, ◌≤◌, ◌<◌}
use native.Mathlib.Nat.{le_of_eq, le-min, suc-add}
use native.Mathlib.Omega.{arith}
use lib.ListN.{length, get_or, set, take, drop, length-take, length-drop, drop_of_length-le, length-append, get_or-append}
use lib.Seq.{take_all, length-take-le, get_or-append-add, get_or-take, get_or-drop}
use borrow.Rule.Slice.PartMut.{put_mid}

module _ {A : Type 0} where
  pub tail_is : (a : ℕ) (l : List A) → take (length l - a) (drop a l) ≡ drop a l
  tail_is a l = take_all (length l - a) (drop a l) (le_of_eq (length-drop a l))

  pub tail_back : (a : ℕ) (l r : List A) → put_mid a (length l - a) l r ≡ take a l ++ r
  tail_back a l r = rw (drop_of_length-le (drop a l) (le_of_eq (length-drop a l)), append-nil)

  pub tail_length : (a : ℕ) (l r : List A) → a ≤ length l → length r ≡ length l - a → length (take a l ++ r) ≡ length l
  tail_length a l r h e = rw (length-append, length-take-le a l h, e) (omega arith)

  -- an entry at or past a, of the tail and of a list whose tail is r; and an entry before it
  pub tail_at : (d : A) (a : ℕ) (l : List A) (x : ℕ) → a ≤ x → get_or (drop a l) (x - a) d ≡ get_or l x d
  tail_at d a l x p = let e : a + (x - a) ≡ x = omega arith in get_or-drop a l (x - a) d ∙ ap (λ (j : ℕ). get_or l j d) e

  pub back_from : (d : A) (a : ℕ) (l r : List A) (x : ℕ) → a ≤ length l → a ≤ x → get_or (take a l ++ r) x d ≡ get_or r (x - a) d
  back_from d a l r x h p =
      let t : length (take a l) ≡ a = length-take-le a l h in
      let e : a + (x - a) ≡ x = omega arith in
      ap (λ (j : ℕ). get_or (take a l ++ r) j d) (sym e ∙ ap (λ (j : ℕ). j + (x - a)) (sym t)) ∙ get_or-append-add (take a l) r (x - a) d

  pub back_before : (d : A) (a : ℕ) (l r : List A) (x : ℕ) → x < a → x < length l → get_or (take a l ++ r) x d ≡ get_or l x d
  back_before d a l r x q k =
      let inside : x < length (take a l) = rw length-take (le-min q k) in
      get_or-append (take a l) r d x inside ∙ get_or-take a l x d q

  -- a store behind a front
  pub set_behind : (p r : List A) (n t : ℕ) (v : A) → length p ≡ n → set (p ++ r) (n + t) v ≡ p ++ set r t v
  set_behind [] r n t v e = let z : n + t ≡ t = omega arith in ap (λ (j : ℕ). set r j v) z
  set_behind (x ∷ p) r zero t v e = absurd (omega arith)
  set_behind (x ∷ p) r (suc n) t v e = rw suc-add (ap (λ (l : List A). x ∷ l) (set_behind p r n t v (omega arith)))
