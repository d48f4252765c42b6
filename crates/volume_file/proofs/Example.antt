-- The example (docs/SCOPE.md, S10.6): what is printed of its volume, computed from the definitions of the build and of the volume. Assumes nothing.
use mathlib.Core.Path.{◌≡◌, refl, ◌∙◌}
use mathlib.Core.List.{List}
use Prim.Native.Nat.{ℕ}
use lib.IntN.{pos}
use lib.ListN.{length}
use lib.Ieee.{le, of_int}
use Rattle.laws.specs.Ints.{size_of}
use Rattle.points.specs.Positions.{frame_of}
use Rattle.points.specs.Limits.{origin_ok, step_ok, origins_ok, steps_ok, frame_ok}
use Rattle.lattice.specs.Sites.{side_ok, sides_ok, cells}
use Rattle.refusals.specs.Refusals.{settings_ok, inside_ok, site_room, vertex_room, cell_room, most, status_of}
use Rattle.stages.specs.Meshes.{mesh_of}
use Rattle.stages.proofs.Examples.{stages_key}
use Rattle.build.specs.Answer.{Order, status, order_box, order_vertices, order_positions, order_triangles}
use Rattle.lines.specs.Numbers.{digits, dec}
use Rattle.lines.specs.Lines.{line_of}
use Rattle.count_file.specs.Example as count
use Rattle.count_file.proofs.Example.{example_file_lem}
use Rattle.file_build.specs.Asked.{head_sides, point_of, head_frame, head_inside, floats_of, work_order}
use Rattle.file_build.specs.Told.{file}
use Rattle.decimals.specs.Decimals.{sign_of, signed_dec, pointed, decimal}
use Rattle.volume.specs.declared.Whole.{Whole}
use Rattle.volume.specs.Volume.{volume_of}
use Rattle.volume.proofs.Examples.{volume_key}
use Rattle.volume_file.specs.Text.{six_line, volume_line, volume_text, answer_text, scale_of, Measured}
use Rattle.volume_file.specs.Example.{example_text}
use Rattle.volume_file.proofs.Texts.{text-done, measured_unique}

abbrev asked : Order
asked = work_order count.example_head (floats_of count.example_samples)

abbrev here : Whole
here = record { x = pos 0; y = pos 0; z = pos 0 }

granted : status asked ≡ 0
unfolding stages_key le origin_ok step_ok origins_ok steps_ok frame_ok side_ok sides_ok cells settings_ok inside_ok site_room vertex_room cell_room most status_of head_sides point_of frame_of head_frame head_inside floats_of
granted = refl

triangles : length (mesh_of (order_box asked) (order_vertices asked)) ≡ 12
unfolding stages_key order_box order_vertices head_sides point_of frame_of head_frame head_inside floats_of
triangles = refl

found : volume_of (order_positions asked) (order_triangles asked) (scale_of 3) here ≡ record { status = 0; six = pos 2358000000 }
unfolding stages_key volume_key order_box order_vertices head_sides point_of frame_of head_frame head_inside floats_of scale_of of_int
found = refl

printed : answer_text 3 12 (record { status = 0; six = pos 2358000000 }) ≡ example_text
unfolding answer_text volume_text six_line volume_line line_of sign_of signed_dec size_of pointed decimal dec digits
printed = refl

-- what is printed of the example (docs/SCOPE.md, S10.6) is what the oracle prints
pub example_measured : (t : List ℕ) → Measured 3 here count.example_file t → t ≡ example_text
example_measured t m =
    measured_unique 3 here m (file _ _ example_file_lem) ∙ text-done 3 here asked granted ∙ (λ i. answer_text 3 (triangles i) (found i)) ∙ printed
