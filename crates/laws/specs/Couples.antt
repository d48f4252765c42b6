-- Directed pairs, and lists of them in which each pair stands against one that runs the other way. Assumes nothing.
use Rattle.std.specs.Prelude.{Bool, true, false, ◌&&◌, cond, List, [], ◌∷◌, ℕ, eqb}

abbrev pub Pair : Type 0
Pair = ℕ × ℕ

-- the pair run the other way
unfoldable pub turn : Pair → Pair
turn x = (x.1, x.0)

-- a naming of the ends
unfoldable pub on_both : (ℕ → ℕ) → Pair → Pair
on_both h x = (h x.0, h x.1)

-- the pair runs from p to q
unfoldable pub from_to : ℕ → ℕ → Pair → Bool
from_to p q x = eqb x.0 p && eqb x.1 q

-- the two run against each other
unfoldable pub against : Pair → Pair → Bool
against x y = eqb x.0 y.1 && eqb x.1 y.0

-- x strikes out the first that runs against it, or else goes to the end
unfoldable pub push : Pair → List Pair → List Pair
push x [] = x ∷ []
push x (y ∷ ys) = let r : List Pair = y ∷ push x ys in cond (against x y) ys r

unfoldable pub left : List Pair → List Pair → List Pair
left acc [] = acc
left acc (x ∷ xs) = left (push x acc) xs

unfoldable pub is_nil : List Pair → Bool
is_nil [] = true
is_nil (x ∷ xs) = false

-- every pair of the list is struck out
unfoldable pub cancels : List Pair → Bool
cancels l = is_nil (left [] l)
