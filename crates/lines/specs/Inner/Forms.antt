-- A string of keys, each ended by `=`, and the list of fields that it says. Assumes nothing.
use Rattle.std.specs.Prelude.{Bool, true, false, cond, List, [], ◌∷◌, ℕ, zero, suc, eqb, length, drop}
use Rattle.lines.specs.Lines.{Field, Dec, Hex}

-- the bytes up to the first `=`, with it
unfoldable pub first_key : List ℕ → List ℕ
first_key [] = []
first_key (b ∷ l) = b ∷ cond (eqb b 61) [] (first_key l)

-- a kind of line: by its bits, or in decimal
unfoldable pub field_of : Bool → List ℕ → Field
field_of true key = Hex key
field_of false key = Dec key

-- the first n keys: d lines in decimal, then the others by their bits
unfoldable pub form_of : ℕ → ℕ → List ℕ → List Field
form_of d zero l = []
form_of zero (suc n) l = Hex (first_key l) ∷ form_of zero n (drop (length (first_key l)) l)
form_of (suc d) (suc n) l = Dec (first_key l) ∷ form_of d n (drop (length (first_key l)) l)
