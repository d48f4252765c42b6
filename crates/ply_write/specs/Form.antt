-- PLY files of our kind (docs/SCOPE.md, S11): PLY 1.0, binary little endian, three doubles x, y, z a vertex, a list of three ints with a uchar count
-- a face. Coordinates are words, the 64-bit patterns of the doubles. One printer is the definition: a file of the kind is what it prints. Assumes nothing.
use Rattle.std.specs.Prelude.{◌≡◌, List, [], ◌∷◌, ◌++◌, ℕ, ◌+◌, ◌*◌, ◌/◌, ◌%◌, ◌^◌, ◌<◌, length, get_or}
use Rattle.laws.specs.Lists.{All}
use Rattle.laws.specs.Ranges.{each}
use Rattle.lines.specs.Lines.{dec_line, Small}
use Rattle.little_endian.specs.Bytes.{bytes_of}

-- ---- the header, line by line

-- `ply` LF
abbrev pub ply_line : List ℕ
ply_line = 112 ∷ 108 ∷ 121 ∷ 10 ∷ []

-- `format binary_little_endian 1.0` LF
abbrev pub format_line : List ℕ
format_line = 102 ∷ 111 ∷ 114 ∷ 109 ∷ 97 ∷ 116 ∷ 32 ∷ 98 ∷ 105 ∷ 110 ∷ 97 ∷ 114 ∷ 121 ∷ 95 ∷ 108 ∷ 105 ∷ 116 ∷ 116 ∷ 108 ∷ 101 ∷ 95 ∷ 101 ∷ 110 ∷ 100 ∷ 105 ∷ 97 ∷ 110 ∷ 32 ∷ 49 ∷ 46 ∷ 48 ∷ 10 ∷ []

-- `element vertex `
abbrev pub vertex_key : List ℕ
vertex_key = 101 ∷ 108 ∷ 101 ∷ 109 ∷ 101 ∷ 110 ∷ 116 ∷ 32 ∷ 118 ∷ 101 ∷ 114 ∷ 116 ∷ 101 ∷ 120 ∷ 32 ∷ []

-- `property double x` LF
abbrev pub x_line : List ℕ
x_line = 112 ∷ 114 ∷ 111 ∷ 112 ∷ 101 ∷ 114 ∷ 116 ∷ 121 ∷ 32 ∷ 100 ∷ 111 ∷ 117 ∷ 98 ∷ 108 ∷ 101 ∷ 32 ∷ 120 ∷ 10 ∷ []

-- `property double y` LF
abbrev pub y_line : List ℕ
y_line = 112 ∷ 114 ∷ 111 ∷ 112 ∷ 101 ∷ 114 ∷ 116 ∷ 121 ∷ 32 ∷ 100 ∷ 111 ∷ 117 ∷ 98 ∷ 108 ∷ 101 ∷ 32 ∷ 121 ∷ 10 ∷ []

-- `property double z` LF
abbrev pub z_line : List ℕ
z_line = 112 ∷ 114 ∷ 111 ∷ 112 ∷ 101 ∷ 114 ∷ 116 ∷ 121 ∷ 32 ∷ 100 ∷ 111 ∷ 117 ∷ 98 ∷ 108 ∷ 101 ∷ 32 ∷ 122 ∷ 10 ∷ []

-- `element face `
abbrev pub face_key : List ℕ
face_key = 101 ∷ 108 ∷ 101 ∷ 109 ∷ 101 ∷ 110 ∷ 116 ∷ 32 ∷ 102 ∷ 97 ∷ 99 ∷ 101 ∷ 32 ∷ []

-- `property list uchar int vertex_indices` LF
abbrev pub list_line : List ℕ
list_line = 112 ∷ 114 ∷ 111 ∷ 112 ∷ 101 ∷ 114 ∷ 116 ∷ 121 ∷ 32 ∷ 108 ∷ 105 ∷ 115 ∷ 116 ∷ 32 ∷ 117 ∷ 99 ∷ 104 ∷ 97 ∷ 114 ∷ 32 ∷ 105 ∷ 110 ∷ 116 ∷ 32 ∷ 118 ∷ 101 ∷ 114 ∷ 116 ∷ 101 ∷ 120 ∷ 95 ∷ 105 ∷ 110 ∷ 100 ∷ 105 ∷ 99 ∷ 101 ∷ 115 ∷ 10 ∷ []

-- `end_header` LF
abbrev pub end_line : List ℕ
end_line = 101 ∷ 110 ∷ 100 ∷ 95 ∷ 104 ∷ 101 ∷ 97 ∷ 100 ∷ 101 ∷ 114 ∷ 10 ∷ []

-- the whole lines and the key before the number of vertices, before the number of faces, and what follows that
abbrev pub opening : List ℕ
opening = ply_line ++ (format_line ++ vertex_key)

abbrev pub middle : List ℕ
middle = x_line ++ (y_line ++ (z_line ++ face_key))

abbrev pub closing : List ℕ
closing = list_line ++ end_line

-- the header of v vertices and f faces; a number is in decimal, with no needless zero, and ended by LF
unfoldable pub head_text : ℕ → ℕ → List ℕ
head_text v f = dec_line opening v ++ (dec_line middle f ++ closing)

-- ---- the body

-- 8 bytes for each coordinate, lowest byte first
unfoldable pub words_text : List ℕ → List ℕ
words_text ws = each (length ws) (λ k. bytes_of 8 (get_or ws k 0))

-- for each face one byte 3 and three indices of 4 bytes, lowest byte first
unfoldable pub face_text : ℕ → ℕ → ℕ → List ℕ
face_text a b c = 3 ∷ (bytes_of 4 a ++ (bytes_of 4 b ++ bytes_of 4 c))

unfoldable pub faces_text : List ℕ → List ℕ
faces_text ts = each (length ts / 3) (λ k. face_text (get_or ts (k * 3) 0) (get_or ts (k * 3 + 1) 0) (get_or ts (k * 3 + 2) 0))

-- ---- the file

-- how many vertices or faces
abbrev pub count_of : List ℕ → ℕ
count_of l = length l / 3

-- nothing follows the last face
unfoldable pub ply_text : List ℕ → List ℕ → List ℕ
ply_text ws ts = head_text (count_of ws) (count_of ts) ++ (words_text ws ++ faces_text ts)

-- how long the file of v vertices and f faces is
abbrev pub size_of : ℕ → ℕ → ℕ
size_of v f = length (head_text v f) + (v * 24 + f * 13)

-- n coordinates and the indices ts: in whole threes, counts of at most nine digits, indices below the number of vertices
pub record Fits (n : ℕ) (ts : List ℕ) : Type 0 where
  pub whole_words : n % 3 ≡ 0
  pub whole_triangles : length ts % 3 ≡ 0
  pub vertices : Small (n / 3)
  pub faces : Small (count_of ts)
  pub below : All (λ x. x < n / 3) ts

abbrev pub Fit : List ℕ → List ℕ → Type 0
Fit ws ts = Fits (length ws) ts

-- s is the file of the coordinates ws and the indices ts
pub record PlyFile (s ws ts : List ℕ) : Type 0 where
  pub fit : Fit ws ts
  pub words : All (λ w. w < 2 ^ 64) ws
  pub is : s ≡ ply_text ws ts

-- s is a file of the kind
pub record OfKind (s : List ℕ) : Type 0 where
  pub words : List ℕ
  pub triangles : List ℕ
  pub file : PlyFile s words triangles

-- s begins with a header of the kind, whatever follows it
pub record Headed (s : List ℕ) : Type 0 where
  pub vertices : ℕ
  pub faces : ℕ
  pub rest : List ℕ
  pub small_v : Small vertices
  pub small_f : Small faces
  pub is : s ≡ head_text vertices faces ++ rest
