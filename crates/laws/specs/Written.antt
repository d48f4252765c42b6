-- Appending to a lent list: `Written l n vs l' n'` says that l' is l with vs stored from n on and all else as it was, and that n' is the next free place.
-- Assumes nothing.
use Rattle.std.specs.Prelude.{◌≡◌, List, ℕ, ◌+◌, ◌≤◌, length, take}
use Rattle.std.proofs.lemmas.List.Edits.{sets}

-- `sets l n vs` is `take n l ++ vs ++ drop (n + length vs) l` where there is room (`written-plain`)
pub record Written {A : Type 0} (l : List A) (n : ℕ) (vs l' : List A) (n' : ℕ) : Type 0 where
  pub buf : l' ≡ sets l n vs
  pub next : n' ≡ n + length vs

-- r entries are no more than l has; the second part follows from the first, and is what a caller's `&l[..r]` asks for
abbrev pub Within : {A : Type 0} → ℕ → List A → Type 0
Within r l = (r ≤ length l) × (r ≡ length (take r l))
