-- The example (docs/SCOPE.md, S10.6): what is printed for its file, computed from the definition of the build. Assumes nothing.
use mathlib.Core.Path.{◌≡◌, refl, ap, ◌∙◌}
use mathlib.Core.List.{List}
use Prim.Native.Nat.{ℕ}
use lib.Ieee.{le}
use Rattle.points.specs.Positions.{frame_of}
use Rattle.points.specs.Limits.{origin_ok, step_ok, origins_ok, steps_ok, frame_ok}
use Rattle.lattice.specs.Sites.{side_ok, sides_ok, cells}
use Rattle.refusals.specs.Refusals.{settings_ok, inside_ok, site_room, vertex_room, cell_room, most, status_of}
use Rattle.stages.proofs.Examples.{stages_key}
use Rattle.topology.specs.Topology.{case_number}
use Rattle.stages.specs.Samples.{is_case, case_count}
use Rattle.build.specs.declared.Answer.{Answer}
use Rattle.build.specs.Answer.{order_box, order_vertices, order_cases, done_answer, refused_answer, answer_of, counts_of}
use Rattle.count_file.specs.Example.{example_head, example_samples, example_file, example_said, example_answer, answer-is}
use Rattle.count_file.proofs.Example.{example_file_lem, example_said_lem}
use Rattle.file_build.specs.Asked.{head_sides, point_of, head_frame, head_inside, floats_of, work_order}
use Rattle.count.specs.Count.{printed, file_answer, Counted}
use Rattle.count.proofs.Counts.{counted-file}

abbrev counts : Answer
counts = record { status = 0; crossed = 14; vertices = 8; triangles = 12; closed = 0; multihole = 0; flathole = 0; multisurface = 0; simple = 8; split = 0; rounds = 0 }

example_build : answer_of (work_order example_head (floats_of example_samples)) ≡ counts
unfolding stages_key le origin_ok step_ok origins_ok steps_ok frame_ok side_ok sides_ok cells settings_ok inside_ok site_room vertex_room cell_room most status_of case_number is_case case_count order_box order_vertices order_cases done_answer refused_answer answer_of head_sides point_of frame_of head_frame head_inside floats_of
example_build = refl

pub example_printed : (t : List ℕ) → Counted example_file t → t ≡ example_answer
unfolding file_answer printed counts_of
example_printed t c = counted-file example_head example_samples example_file_lem c ∙ ap (printed 27) example_build ∙ answer-is

-- and for the same file with the line of the threshold
pub said-printed : (t : List ℕ) → Counted example_said t → t ≡ example_answer
unfolding file_answer printed counts_of
said-printed t c = counted-file example_head example_samples example_said_lem c ∙ ap (printed 27) example_build ∙ answer-is
