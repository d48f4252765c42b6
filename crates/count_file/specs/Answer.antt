-- What the count program prints where it is done (docs/SCOPE.md, S10.5): twelve lines. Where it refuses it prints `refusal_text` of lines. Assumes nothing.
use Rattle.std.specs.Prelude.{List, [], ◌∷◌, ℕ}
use Rattle.lines.specs.Lines.{Field, Dec, lines}
use Rattle.lines.specs.Status.{status}

-- sites= crossed= vertices= triangles= closed= multihole= flathole= multisurface= simple= split= rounds=
abbrev pub count_form : List Field
count_form =
    Dec (115 ∷ 105 ∷ 116 ∷ 101 ∷ 115 ∷ 61 ∷ [])  -- sites=
    ∷ Dec (99 ∷ 114 ∷ 111 ∷ 115 ∷ 115 ∷ 101 ∷ 100 ∷ 61 ∷ [])  -- crossed=
    ∷ Dec (118 ∷ 101 ∷ 114 ∷ 116 ∷ 105 ∷ 99 ∷ 101 ∷ 115 ∷ 61 ∷ [])  -- vertices=
    ∷ Dec (116 ∷ 114 ∷ 105 ∷ 97 ∷ 110 ∷ 103 ∷ 108 ∷ 101 ∷ 115 ∷ 61 ∷ [])  -- triangles=
    ∷ Dec (99 ∷ 108 ∷ 111 ∷ 115 ∷ 101 ∷ 100 ∷ 61 ∷ [])  -- closed=
    ∷ Dec (109 ∷ 117 ∷ 108 ∷ 116 ∷ 105 ∷ 104 ∷ 111 ∷ 108 ∷ 101 ∷ 61 ∷ [])  -- multihole=
    ∷ Dec (102 ∷ 108 ∷ 97 ∷ 116 ∷ 104 ∷ 111 ∷ 108 ∷ 101 ∷ 61 ∷ [])  -- flathole=
    ∷ Dec (109 ∷ 117 ∷ 108 ∷ 116 ∷ 105 ∷ 115 ∷ 117 ∷ 114 ∷ 102 ∷ 97 ∷ 99 ∷ 101 ∷ 61 ∷ [])  -- multisurface=
    ∷ Dec (115 ∷ 105 ∷ 109 ∷ 112 ∷ 108 ∷ 101 ∷ 61 ∷ [])  -- simple=
    ∷ Dec (115 ∷ 112 ∷ 108 ∷ 105 ∷ 116 ∷ 61 ∷ [])  -- split=
    ∷ Dec (114 ∷ 111 ∷ 117 ∷ 110 ∷ 100 ∷ 115 ∷ 61 ∷ [])  -- rounds=
    ∷ []

-- done, with the eleven numbers vs
unfoldable pub answer_text : List ℕ → List ℕ
answer_text vs = lines (status ∷ count_form) (0 ∷ vs)
