-- Entries at the front of a lent list: read, stored, appended to and written over. Assumes nothing.
use mathlib.Core.Path.{◌≡◌, sym, ap, ◌∙◌}
use mathlib.Core.List.{List, ◌++◌}
use Prim.Native.Nat.{ℕ, ◌+◌, ◌-◌, ◌≤◌, ◌<◌}
use native.Mathlib.Omega.{arith}
use lib.ListN.{length, get_or, set, drop, length-set, get_or-append}
use lib.Seq.{sets, sets-eq, set-append_left, length-sets, drop-append-add, drop-drop}
use Rattle.laws.proofs.Written.{sets_append}

module _ {A : Type 0} where
  front_is : (xs l : List A) → length xs ≤ length l → sets l 0 xs ≡ xs ++ drop (length xs) l
  front_is xs l h =
      let e : 0 + length xs ≡ length xs = omega arith in
      sets-eq xs l 0 (omega arith) ∙ ap (λ (i : ℕ). xs ++ drop i l) e

  pub front_read : (d : A) (xs l : List A) (i : ℕ) → length xs ≤ length l → i < length xs → get_or (sets l 0 xs) i d ≡ get_or xs i d
  front_read d xs l i h k = ap (λ (y : List A). get_or y i d) (front_is xs l h) ∙ get_or-append xs (drop (length xs) l) d i k

  pub front_set : (v : A) (xs l : List A) (i : ℕ) → length xs ≤ length l → i < length xs → set (sets l 0 xs) i v ≡ sets l 0 (set xs i v)
  front_set v xs l i h k =
      ap (λ (y : List A). set y i v) (front_is xs l h)
      ∙ set-append_left xs (drop (length xs) l) i v k
      ∙ ap (λ (m : ℕ). set xs i v ++ drop m l) (sym (length-set xs i v))
      ∙ sym (front_is (set xs i v) l (omega (arith, length-set xs i v)))

  pub front_more : (xs ys l : List A) (i : ℕ) → length xs ≡ i → sets (sets l 0 xs) i ys ≡ sets l 0 (xs ++ ys)
  front_more xs ys l i e =
      let z : i ≡ 0 + length xs = omega arith in
      ap (λ (j : ℕ). sets (sets l 0 xs) j ys) z ∙ sets_append xs l 0 ys

  -- a longer list written over a shorter one
  pub front_over : (xs ys l : List A) → length xs ≤ length ys → length ys ≤ length l → sets (sets l 0 xs) 0 ys ≡ sets l 0 ys
  front_over xs ys l h k =
      let e : length ys ≡ length xs + (length ys - length xs) = omega arith in
      front_is ys (sets l 0 xs) (omega (arith, length-sets l 0 xs))
      ∙ ap (λ (y : List A). ys ++ drop (length ys) y) (front_is xs l (omega arith))
      ∙ ap (λ (m : ℕ). ys ++ drop m (xs ++ drop (length xs) l)) e
      ∙ ap (λ (y : List A). ys ++ y) (drop-append-add xs (drop (length xs) l) (length ys - length xs) ∙ drop-drop (length ys - length xs) (length xs) l)
      ∙ ap (λ (m : ℕ). ys ++ drop m l) (sym e)
      ∙ sym (front_is ys l k)
