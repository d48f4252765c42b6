-- A truth value as a number, as the answer to a question, and a test at all truth values of a list of given length. Assumes nothing.
use Rattle.std.specs.Prelude.{Bool, true, false, ◌&&◌, List, [], ◌∷◌, ℕ, zero, suc}

-- 1 where it holds, 0 where not
unfoldable pub bit : Bool → ℕ
bit true = 1
bit false = 0

-- the truth value tells whether P holds
abbrev pub Tells : Type 0 → Bool → Type 0
Tells P true = P
Tells P false = P → ⊥

-- the test passes at each list of n truth values
unfoldable pub all_bools : ℕ → (List Bool → Bool) → Bool
all_bools zero p = p []
all_bools (suc n) p = all_bools n (λ l. p (true ∷ l)) && all_bools n (λ l. p (false ∷ l))
