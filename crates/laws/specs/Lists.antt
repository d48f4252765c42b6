-- Lists: those that pass a test, how many do, lists of lists joined, sums over a list, and what holds of every member. Assumes nothing.
use Rattle.std.specs.Prelude.{Bool, true, ◌&&◌, cond, List, [], ◌∷◌, ◌++◌, ℕ, ◌+◌}
use Rattle.laws.specs.Bools.{bit}

module _ {A : Type 0} where
  -- those that pass the test, in their order
  unfoldable pub keep : (A → Bool) → List A → List A
  keep p [] = []
  keep p (x ∷ xs) = cond (p x) (x ∷ keep p xs) (keep p xs)

  -- how many pass the test
  unfoldable pub count : (A → Bool) → List A → ℕ
  count p [] = 0
  count p (x ∷ xs) = bit (p x) + count p xs

  -- whether all do
  unfoldable pub every : (A → Bool) → List A → Bool
  every p [] = true
  every p (x ∷ xs) = p x && every p xs

  unfoldable pub joined : List (List A) → List A
  joined [] = []
  joined (x ∷ xs) = x ++ joined xs

  -- the sum of f over the members
  unfoldable pub total : (A → ℕ) → List A → ℕ
  total f [] = 0
  total f (x ∷ xs) = f x + total f xs

  -- P holds of every member
  unfoldable pub All : (A → Type 0) → List A → Type 0
  All P [] = Unit {0}
  All P (x ∷ xs) = P x × All P xs

-- the sum of f over the members, whatever it is to add
module _ {A B : Type 0} (add : A → A → A) (nought : A) (f : B → A) where
  unfoldable pub weigh : List B → A
  weigh [] = nought
  weigh (x ∷ xs) = add (f x) (weigh xs)
