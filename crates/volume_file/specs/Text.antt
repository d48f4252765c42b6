-- What is printed of the volume: five lines where it is done, the line of the status where it is refused. Assumes nothing.
use Rattle.std.specs.Prelude.{false, cond, List, [], ◌∷◌, ◌++◌, ℕ, ◌*◌, ◌/◌, ◌%◌, ◌^◌, eqb, ltb, ℤ, pos, length, Float}
use Rattle.std.specs.Float.{binary64, fin}
use Rattle.std.specs.Float.Ieee.{of_int}
use Rattle.laws.specs.Ints.{size_of}
use Rattle.lines.specs.Lines.{dec_line, line_of}
use Rattle.lines.specs.Status as text
use Rattle.lines.specs.Status.{refusal_text}
use Rattle.stages.specs.Meshes.{mesh_of}
use Rattle.decimals.specs.Decimals.{sign_of, signed_dec, decimal}
use Rattle.build.specs.Answer.{Order, status, order_box, order_vertices, order_positions, order_triangles}
use Rattle.file_build.specs.Told.{Told, ToldAt}
use Rattle.volume.specs.declared.Whole.{Whole}
use Rattle.volume.specs.Volume.{Volume, volume_of}

-- ---- the lines; d digits say that 10 ^ d whole units make one of the frame's

-- the keys triangles= six= volume= sixths=
abbrev pub triangles_key : List ℕ
triangles_key = 116 ∷ 114 ∷ 105 ∷ 97 ∷ 110 ∷ 103 ∷ 108 ∷ 101 ∷ 115 ∷ 61 ∷ []

abbrev pub six_key : List ℕ
six_key = 115 ∷ 105 ∷ 120 ∷ 61 ∷ []

abbrev pub volume_key : List ℕ
volume_key = 118 ∷ 111 ∷ 108 ∷ 117 ∷ 109 ∷ 101 ∷ 61 ∷ []

abbrev pub sixths_key : List ℕ
sixths_key = 115 ∷ 105 ∷ 120 ∷ 116 ∷ 104 ∷ 115 ∷ 61 ∷ []

-- the sum, with its sign
unfoldable pub six_line : ℤ → List ℕ
six_line z = six_key ++ (signed_dec z ++ (10 ∷ []))

-- a sixth of it in cubic units of the frame, cut toward zero behind 3 d digits, with the sum's sign
unfoldable pub volume_line : ℕ → ℤ → List ℕ
volume_line d z = volume_key ++ (sign_of z ++ (decimal (3 * d) (size_of z / 6) ++ (10 ∷ [])))

-- status=0, how many triangles, the sum, the volume, and what is left, in sixths of the last place
unfoldable pub volume_text : ℕ → ℕ → ℤ → List ℕ
volume_text d triangles z = line_of text.status 0 ++ (dec_line triangles_key triangles ++ (six_line z ++ (volume_line d z ++ dec_line sixths_key (size_of z % 6))))

unfoldable pub answer_text : ℕ → ℕ → Volume → List ℕ
answer_text d triangles v = cond (eqb v.status 0) (volume_text d triangles v.six) (refusal_text v.status)

-- ---- for a count file

-- 10 ^ d, for d up to 6; no other is taken, and 0 is no scale
unfoldable pub scale_of : ℕ → Float
scale_of d = cond (ltb d 7) (of_int binary64 (pos (10 ^ d))) (fin false 0 (pos 0))

-- for an order: the volume of its mesh
unfoldable pub measure_of : ℕ → Whole → Order → List ℕ
measure_of d c o =
    cond (eqb (status o) 0)
    (answer_text d (length (mesh_of (order_box o) (order_vertices o))) (volume_of (order_positions o) (order_triangles o) (scale_of d) c))
    (refusal_text (status o))

-- what is printed for an input, and that it stands at the front of a list
abbrev pub Measured : ℕ → Whole → List ℕ → List ℕ → Type 0
Measured d c = Told (measure_of d c)

abbrev pub MeasuredAt : ℕ → Whole → (s l l' : List ℕ) (r : ℕ) → Type 0
MeasuredAt d c = ToldAt (measure_of d c)
