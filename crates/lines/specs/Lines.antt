-- Lines of text: a key, a number in decimal or by its sixteen hex digits, LF; and runs of such lines. Nothing here knows how they are read.
-- Assumes nothing.
use Rattle.std.specs.Prelude.{List, [], ◌∷◌, ◌++◌, ℕ, ◌^◌, ◌<◌}
use Rattle.lines.specs.Numbers.{dec, hex}

abbrev pub dec_end : ℕ → List ℕ
dec_end n = dec n ++ (10 ∷ [])

abbrev pub hex_end : ℕ → List ℕ
hex_end n = hex 16 n ++ (10 ∷ [])

abbrev pub dec_line : List ℕ → ℕ → List ℕ
dec_line key n = key ++ dec_end n

abbrev pub hex_line : List ℕ → ℕ → List ℕ
hex_line key n = key ++ hex_end n

-- at most nine digits; 64 bits
abbrev pub Small : ℕ → Type 0
Small n = n < 1000000000

abbrev pub Word : ℕ → Type 0
Word n = n < 2 ^ 64

-- a kind of line: its key, and how its number is written
pub data Field : Type 0 where
  Dec Hex : List ℕ → Field

-- the line of that kind with number n
unfoldable pub line_of : Field → ℕ → List ℕ
line_of (Dec key) n = dec_line key n
line_of (Hex key) n = hex_line key n

-- the numbers that such a line of a file may have
unfoldable pub ok_of : Field → ℕ → Type 0
ok_of (Dec key) n = Small n
ok_of (Hex key) n = Word n

-- one line after the other
unfoldable pub lines : List Field → List ℕ → List ℕ
lines [] vs = []
lines (f ∷ fs) [] = []
lines (f ∷ fs) (v ∷ vs) = line_of f v ++ lines fs vs

-- one number a line, each as its line may have
pub data Fine : List Field → List ℕ → Type 0 where
  none : Fine [] []
  line : {f : Field} {fs : List Field} {v : ℕ} {vs : List ℕ} → ok_of f v → Fine fs vs → Fine (f ∷ fs) (v ∷ vs)
