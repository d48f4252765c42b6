-- What is written for a count file: the PLY file of the mesh that is built of it, or the line of the status where the count program would refuse.
-- Assumes nothing.
use Rattle.std.specs.Prelude.{cond, List, ℕ, eqb}
use Rattle.lines.specs.Status.{refusal_text}
use Rattle.build.specs.Answer.{Order, status, order_positions, order_triangles}
use Rattle.file_build.specs.Told.{Told, ToldAt}
use Rattle.ply_write.specs.Form.{ply_text}
use Rattle.ply_write.specs.Answers.{bits_of}

-- for an order: all vertices ever made, and the triangles
unfoldable pub ply_of : Order → List ℕ
ply_of o = cond (eqb (status o) 0) (ply_text (bits_of (order_positions o)) (order_triangles o)) (refusal_text (status o))

-- what is written for an input, and that it stands at the front of a list
abbrev pub Drawn : List ℕ → List ℕ → Type 0
Drawn = Told ply_of

abbrev pub DrawnAt : (s l l' : List ℕ) (r : ℕ) → Type 0
DrawnAt = ToldAt ply_of
