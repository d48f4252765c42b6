-- A file of three vertices and two faces, as another maker's `struct.pack` has it, and the file of none: what the printer prints. Assumes nothing.
use Rattle.std.specs.Prelude.{◌≡◌, refl, List, [], ◌∷◌, ℕ}
use Rattle.laws.specs.Ranges.{each}
use Rattle.lines.specs.Numbers.{digits, dec}
use Rattle.little_endian.specs.Bytes.{bytes_of}
use Rattle.ply_write.specs.Form.{head_text, words_text, face_text, faces_text, ply_text}

-- 1.0, -0.0, a NaN with a payload, 0.0, the least subnormal, all ones, ..
abbrev pub example_words : List ℕ
example_words = 0x3ff0000000000000 ∷ 0x8000000000000000 ∷ 0x7ff8dead00000001 ∷ 0x0 ∷ 0x1 ∷ 0xffffffffffffffff ∷ 0x102030405060708 ∷ 0xc000000000000000 ∷ 0x4024000000000000 ∷ []

abbrev pub example_triangles : List ℕ
example_triangles = 0 ∷ 1 ∷ 2 ∷ 2 ∷ 1 ∷ 0 ∷ []

abbrev pub example_file : List ℕ
example_file =
    112 ∷ 108 ∷ 121 ∷ 10 ∷ 102 ∷ 111 ∷ 114 ∷ 109 ∷ 97 ∷ 116 ∷ 32 ∷ 98 ∷ 105 ∷ 110 ∷ 97 ∷ 114 ∷ 121 ∷ 95 ∷ 108 ∷ 105 ∷ 116 ∷ 116 ∷ 108 ∷ 101
    ∷ 95 ∷ 101 ∷ 110 ∷ 100 ∷ 105 ∷ 97 ∷ 110 ∷ 32 ∷ 49 ∷ 46 ∷ 48 ∷ 10 ∷ 101 ∷ 108 ∷ 101 ∷ 109 ∷ 101 ∷ 110 ∷ 116 ∷ 32 ∷ 118 ∷ 101 ∷ 114 ∷ 116
    ∷ 101 ∷ 120 ∷ 32 ∷ 51 ∷ 10 ∷ 112 ∷ 114 ∷ 111 ∷ 112 ∷ 101 ∷ 114 ∷ 116 ∷ 121 ∷ 32 ∷ 100 ∷ 111 ∷ 117 ∷ 98 ∷ 108 ∷ 101 ∷ 32 ∷ 120 ∷ 10 ∷ 112
    ∷ 114 ∷ 111 ∷ 112 ∷ 101 ∷ 114 ∷ 116 ∷ 121 ∷ 32 ∷ 100 ∷ 111 ∷ 117 ∷ 98 ∷ 108 ∷ 101 ∷ 32 ∷ 121 ∷ 10 ∷ 112 ∷ 114 ∷ 111 ∷ 112 ∷ 101 ∷ 114 ∷ 116
    ∷ 121 ∷ 32 ∷ 100 ∷ 111 ∷ 117 ∷ 98 ∷ 108 ∷ 101 ∷ 32 ∷ 122 ∷ 10 ∷ 101 ∷ 108 ∷ 101 ∷ 109 ∷ 101 ∷ 110 ∷ 116 ∷ 32 ∷ 102 ∷ 97 ∷ 99 ∷ 101 ∷ 32
    ∷ 50 ∷ 10 ∷ 112 ∷ 114 ∷ 111 ∷ 112 ∷ 101 ∷ 114 ∷ 116 ∷ 121 ∷ 32 ∷ 108 ∷ 105 ∷ 115 ∷ 116 ∷ 32 ∷ 117 ∷ 99 ∷ 104 ∷ 97 ∷ 114 ∷ 32 ∷ 105 ∷ 110
    ∷ 116 ∷ 32 ∷ 118 ∷ 101 ∷ 114 ∷ 116 ∷ 101 ∷ 120 ∷ 95 ∷ 105 ∷ 110 ∷ 100 ∷ 105 ∷ 99 ∷ 101 ∷ 115 ∷ 10 ∷ 101 ∷ 110 ∷ 100 ∷ 95 ∷ 104 ∷ 101 ∷ 97
    ∷ 100 ∷ 101 ∷ 114 ∷ 10 ∷ 0 ∷ 0 ∷ 0 ∷ 0 ∷ 0 ∷ 0 ∷ 240 ∷ 63 ∷ 0 ∷ 0 ∷ 0 ∷ 0 ∷ 0 ∷ 0 ∷ 0 ∷ 128 ∷ 1 ∷ 0 ∷ 0 ∷ 0
    ∷ 173 ∷ 222 ∷ 248 ∷ 127 ∷ 0 ∷ 0 ∷ 0 ∷ 0 ∷ 0 ∷ 0 ∷ 0 ∷ 0 ∷ 1 ∷ 0 ∷ 0 ∷ 0 ∷ 0 ∷ 0 ∷ 0 ∷ 0 ∷ 255 ∷ 255 ∷ 255 ∷ 255
    ∷ 255 ∷ 255 ∷ 255 ∷ 255 ∷ 8 ∷ 7 ∷ 6 ∷ 5 ∷ 4 ∷ 3 ∷ 2 ∷ 1 ∷ 0 ∷ 0 ∷ 0 ∷ 0 ∷ 0 ∷ 0 ∷ 0 ∷ 192 ∷ 0 ∷ 0 ∷ 0 ∷ 0
    ∷ 0 ∷ 0 ∷ 36 ∷ 64 ∷ 3 ∷ 0 ∷ 0 ∷ 0 ∷ 0 ∷ 1 ∷ 0 ∷ 0 ∷ 0 ∷ 2 ∷ 0 ∷ 0 ∷ 0 ∷ 3 ∷ 2 ∷ 0 ∷ 0 ∷ 0 ∷ 1 ∷ 0
    ∷ 0 ∷ 0 ∷ 0 ∷ 0 ∷ 0 ∷ 0 ∷ []

abbrev pub empty_file : List ℕ
empty_file =
    112 ∷ 108 ∷ 121 ∷ 10 ∷ 102 ∷ 111 ∷ 114 ∷ 109 ∷ 97 ∷ 116 ∷ 32 ∷ 98 ∷ 105 ∷ 110 ∷ 97 ∷ 114 ∷ 121 ∷ 95 ∷ 108 ∷ 105 ∷ 116 ∷ 116 ∷ 108 ∷ 101
    ∷ 95 ∷ 101 ∷ 110 ∷ 100 ∷ 105 ∷ 97 ∷ 110 ∷ 32 ∷ 49 ∷ 46 ∷ 48 ∷ 10 ∷ 101 ∷ 108 ∷ 101 ∷ 109 ∷ 101 ∷ 110 ∷ 116 ∷ 32 ∷ 118 ∷ 101 ∷ 114 ∷ 116
    ∷ 101 ∷ 120 ∷ 32 ∷ 48 ∷ 10 ∷ 112 ∷ 114 ∷ 111 ∷ 112 ∷ 101 ∷ 114 ∷ 116 ∷ 121 ∷ 32 ∷ 100 ∷ 111 ∷ 117 ∷ 98 ∷ 108 ∷ 101 ∷ 32 ∷ 120 ∷ 10 ∷ 112
    ∷ 114 ∷ 111 ∷ 112 ∷ 101 ∷ 114 ∷ 116 ∷ 121 ∷ 32 ∷ 100 ∷ 111 ∷ 117 ∷ 98 ∷ 108 ∷ 101 ∷ 32 ∷ 121 ∷ 10 ∷ 112 ∷ 114 ∷ 111 ∷ 112 ∷ 101 ∷ 114 ∷ 116
    ∷ 121 ∷ 32 ∷ 100 ∷ 111 ∷ 117 ∷ 98 ∷ 108 ∷ 101 ∷ 32 ∷ 122 ∷ 10 ∷ 101 ∷ 108 ∷ 101 ∷ 109 ∷ 101 ∷ 110 ∷ 116 ∷ 32 ∷ 102 ∷ 97 ∷ 99 ∷ 101 ∷ 32
    ∷ 48 ∷ 10 ∷ 112 ∷ 114 ∷ 111 ∷ 112 ∷ 101 ∷ 114 ∷ 116 ∷ 121 ∷ 32 ∷ 108 ∷ 105 ∷ 115 ∷ 116 ∷ 32 ∷ 117 ∷ 99 ∷ 104 ∷ 97 ∷ 114 ∷ 32 ∷ 105 ∷ 110
    ∷ 116 ∷ 32 ∷ 118 ∷ 101 ∷ 114 ∷ 116 ∷ 101 ∷ 120 ∷ 95 ∷ 105 ∷ 110 ∷ 100 ∷ 105 ∷ 99 ∷ 101 ∷ 115 ∷ 10 ∷ 101 ∷ 110 ∷ 100 ∷ 95 ∷ 104 ∷ 101 ∷ 97
    ∷ 100 ∷ 101 ∷ 114 ∷ 10 ∷ []

pub file-is : ply_text example_words example_triangles ≡ example_file
unfolding ply_text head_text words_text faces_text face_text bytes_of each dec digits
file-is = refl

pub empty-is : ply_text [] [] ≡ empty_file
unfolding ply_text head_text words_text faces_text face_text bytes_of each dec digits
empty-is = refl
