-- The example (docs/SCOPE.md, S10.6): the PLY file that is written for it, computed from the definition of the build. Assumes nothing.
use mathlib.Core.Path.{◌≡◌, refl, ap₂, ◌∙◌}
use mathlib.Core.List.{List, map}
use Prim.Native.Nat.{ℕ}
use lib.Ieee.{Float, binary64, of_bits, to_bits, le}
use Rattle.laws.specs.Ranges.{each}
use Rattle.little_endian.specs.Bytes.{bytes_of}
use Rattle.points.specs.Positions.{frame_of}
use Rattle.points.specs.Limits.{origin_ok, step_ok, origins_ok, steps_ok, frame_ok}
use Rattle.lattice.specs.Sites.{side_ok, sides_ok, cells}
use Rattle.refusals.specs.Refusals.{settings_ok, inside_ok, site_room, vertex_room, cell_room, most, status_of}
use Rattle.stages.proofs.Examples.{stages_key}
use Rattle.build.specs.Answer.{Order, status, order_box, order_vertices, order_positions, order_triangles}
use Rattle.lines.specs.Numbers.{digits, dec}
use Rattle.count_file.specs.Example as count
use Rattle.count_file.proofs.Example.{example_file_lem}
use Rattle.file_build.specs.Asked.{head_sides, point_of, head_frame, head_inside, floats_of, work_order}
use Rattle.file_build.specs.Told.{file}
use Rattle.ply_write.specs.Form.{head_text, words_text, face_text, faces_text, ply_text}
use Rattle.ply_write.specs.Answers.{bits_of}
use Rattle.ply_file.specs.Text.{Drawn}
use Rattle.ply_file.specs.Example.{example_words, example_triangles, example_file}
use Rattle.ply_file.proofs.Meshes.{text-done}
use Rattle.ply_file.proofs.Texts.{drawn_unique}

abbrev asked : Order
asked = work_order count.example_head (floats_of count.example_samples)

granted : status asked ≡ 0
unfolding stages_key le origin_ok step_ok origins_ok steps_ok frame_ok side_ok sides_ok cells settings_ok inside_ok site_room vertex_room cell_room most status_of head_sides point_of frame_of head_frame head_inside floats_of
granted = refl

positions : order_positions asked ≡ map (of_bits binary64) example_words
unfolding stages_key order_box order_vertices head_sides point_of frame_of head_frame head_inside floats_of
positions = refl

triangles : order_triangles asked ≡ example_triangles
unfolding stages_key order_box order_vertices head_sides point_of frame_of head_frame head_inside floats_of
triangles = refl

bits : bits_of (map (of_bits binary64) example_words) ≡ example_words
unfolding of_bits to_bits
bits = refl

printed : ply_text example_words example_triangles ≡ example_file
unfolding ply_text head_text words_text face_text faces_text bytes_of each dec digits
printed = refl

-- what is written for the example (docs/SCOPE.md, S10.6) is the oracle's file
pub example_drawn : (t : List ℕ) → Drawn count.example_file t → t ≡ example_file
example_drawn t d =
    drawn_unique d (file _ _ example_file_lem) ∙ text-done asked granted ∙ ap₂ (λ (p : List Float) (f : List ℕ). ply_text (bits_of p) f) positions triangles ∙ ap₂ ply_text bits refl ∙ printed
