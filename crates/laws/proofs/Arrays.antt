-- The `map` of an array is that of the list of its entries, and a mapped list is told entry by entry. Assumes nothing.
use Prim.Native.Nat.{ℕ, ◌<◌}
use native.Mathlib.Omega.{arith}
use mathlib.Core.Path.{◌≡◌, sym, ◌∙◌}
use mathlib.Core.List.{List, [], ◌∷◌}
use denote.Param.Members.{Mut, Called}
use lib.ListN.{length, get_or, length-map}
use Rattle.std.specs.Prelude.{map}
use Rattle.std.specs.Array.{IsMapOf}
use Rattle.std.proofs.lemmas.List.{same_lists, get_or-map}
use Rattle.laws.specs.Ranges.{each}
use Rattle.laws.proofs.Ranges.{each-one-length, each-one-at}

-- where each call gives h of its argument
pub mapped : {F A B : Type 0} (g : Mut F (A × Unit {0}) B) (f : F) (h : A → B) (d : A) (xs : List A) (ys : List B) (n : ℕ) → length xs ≡ n → IsMapOf g f xs ys n
    → ((p q : F) (x : A) (y : B) → Called g p (x, tt) y q → y ≡ h x) → ys ≡ map h xs
mapped g f h d xs ys n l m s =
    same_lists ys (map h xs) (m.long ∙ sym (length-map xs h ∙ l)) (λ k e i.
    let j : k < length xs = omega (arith, l, m.long) in
    let c = m.at k d e (omega (arith, m.long)) in
    s c.0 c.1 _ _ c.2 ∙ sym (get_or-map h xs k d e j))

pub map_each : {A B : Type 0} (h : A → B) (d : A) (l : List A) → map h l ≡ each (length l) (λ k. h (get_or l k d) ∷ [])
map_each h d l =
    let f : ℕ → _ = λ k. h (get_or l k d) in
    same_lists (map h l) (each (length l) (λ k. f k ∷ [])) (length-map l h ∙ sym (each-one-length (length l) f)) (λ k e i.
    let j : k < length l = omega (arith, i, length-map l h) in
    get_or-map h l k d e j ∙ sym (each-one-at e (length l) f k j))
