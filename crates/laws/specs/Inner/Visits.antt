-- The set digits of a mask visited one by one: the list of their places, and what a loop over them keeps. Assumes nothing.
use Rattle.std.specs.Prelude.{List, [], ◌∷◌, ℕ, ◌^◌, ◌<◌}
use Rattle.laws.specs.Ranges.{each}
use Rattle.laws.specs.Lists.{keep}
use Rattle.laws.specs.Digits.{is_set}

-- the places below n whose digit is set, ascending
unfoldable pub set_places : ℕ → ℕ → List ℕ
set_places n m = keep (is_set m) (each n (λ e. e ∷ []))

-- `Does es a b` says that what is to be done for the places es leads from the state a to the state b. A loop over the set digits of m that began in a₀ stands
-- in a, and the digits of rest are left: whatever does the rest from here has done all.
pub record Visiting {A : Type 0} (Does : List ℕ → A → A → Type 0) (k m : ℕ) (a₀ : A) (rest : ℕ) (a : A) : Type 0 where
  pub short : rest < 2 ^ k
  pub ahead : (b : A) → Does (set_places k rest) a b → Does (set_places k m) a₀ b
