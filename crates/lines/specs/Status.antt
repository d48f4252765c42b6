-- The line `status=` that every program of this house prints: first where it is done, alone where it refuses. Assumes nothing.
use Rattle.std.specs.Prelude.{List, [], ◌∷◌, ℕ}
use Rattle.lines.specs.Lines.{Field, Dec, line_of}

-- status=
abbrev pub status : Field
status = Dec (115 ∷ 116 ∷ 97 ∷ 116 ∷ 117 ∷ 115 ∷ 61 ∷ [])

-- refused with number n
abbrev pub refusal_text : ℕ → List ℕ
refusal_text n = line_of status n
