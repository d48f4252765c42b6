-- What a reader answers, said by the printer alone: the value whose print stands at a place, and the place past it; or that there is none. Assumes nothing.
use Rattle.std.specs.Prelude.{◌≡◌, Bool, true, false, ◌&&◌, cond, Option, Some, None, List, [], ◌∷◌, ◌++◌, ℕ, ◌+◌, ◌-◌, ◌≤◌, ltb, eqb, length, drop}
use Rattle.lines.specs.Parts.{Part, Run, parts_text, PartsFine}
use Rattle.lines.specs.declared.Num.{Num}

-- at `at` stands what p prints of a, and `next` is past it
pub record Reads {A : Type 0} (p : A → List ℕ) (ok : A → Type 0) (s : List ℕ) (at : ℕ) (a : A) (next : ℕ) : Type 0 where
  pub fine : ok a
  pub here : drop at s ≡ p a ++ drop next s
  pub past : next ≡ at + length (p a)
  pub within : next ≤ length s

-- no print of p stands there
pub record Absent {A : Type 0} (p : A → List ℕ) (ok : A → Type 0) (s : List ℕ) (at : ℕ) : Type 0 where
  pub none : (a : A) (rest : List ℕ) → ok a → drop at s ≡ p a ++ rest → ⊥

-- the answer of a reader of one number
abbrev pub Line : (p : ℕ → List ℕ) (ok : ℕ → Type 0) → List ℕ → ℕ → Option Num → Type 0
Line p ok s at None = Absent p ok s at
Line p ok s at (Some a) = Reads p ok s at a.value a.next

-- l begins with k
unfoldable pub starts : List ℕ → List ℕ → Bool
starts [] l = true
starts (k ∷ ks) [] = false
starts (k ∷ ks) (b ∷ l) = eqb b k && starts ks l

-- the value of a hex digit; no other byte has one
unfoldable pub hex_val : ℕ → Option ℕ
hex_val b = cond (ltb b 48) None (cond (ltb b 58) (Some (b - 48)) (cond (ltb b 97) None (cond (ltb b 103) (Some (b - 87)) None)))

-- at `at` stands a header of the parts ps, of the values rs, and `next` is past it; or none stands there
abbrev pub Have : List Part → List ℕ → ℕ → List Run → ℕ → Type 0
Have ps s at rs next = Reads (parts_text ps) (PartsFine ps) s at rs next

abbrev pub Miss : List Part → List ℕ → ℕ → Type 0
Miss ps s at = Absent (parts_text ps) (PartsFine ps) s at
