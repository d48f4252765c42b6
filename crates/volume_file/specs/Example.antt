-- What is printed of the example (docs/SCOPE.md, S10.6) with three digits and the whole origin 0, as the oracle has it (tools/oracle). Assumes nothing.
use Rattle.std.specs.Prelude.{List, [], ◌∷◌, ℕ}

-- status=0, triangles=12, six=2358000000, volume=0.393000000, sixths=0
abbrev pub example_text : List ℕ
example_text =
    115 ∷ 116 ∷ 97 ∷ 116 ∷ 117 ∷ 115 ∷ 61 ∷ 48 ∷ 10
    ∷ 116 ∷ 114 ∷ 105 ∷ 97 ∷ 110 ∷ 103 ∷ 108 ∷ 101 ∷ 115 ∷ 61 ∷ 49 ∷ 50 ∷ 10
    ∷ 115 ∷ 105 ∷ 120 ∷ 61 ∷ 50 ∷ 51 ∷ 53 ∷ 56 ∷ 48 ∷ 48 ∷ 48 ∷ 48 ∷ 48 ∷ 48 ∷ 10
    ∷ 118 ∷ 111 ∷ 108 ∷ 117 ∷ 109 ∷ 101 ∷ 61 ∷ 48 ∷ 46 ∷ 51 ∷ 57 ∷ 51 ∷ 48 ∷ 48 ∷ 48 ∷ 48 ∷ 48 ∷ 48 ∷ 10
    ∷ 115 ∷ 105 ∷ 120 ∷ 116 ∷ 104 ∷ 115 ∷ 61 ∷ 48 ∷ 10 ∷ []
