-- The example is a file of the kind, and is read as its words and triangles. Assumes nothing.
use mathlib.Core.Path.{◌≡◌, refl, sym}
use mathlib.Core.List.{[]}
use native.Mathlib.Omega.{arith}
use Rattle.laws.specs.Lists.{All}
use Rattle.std.specs.Prelude.{Result, Ok}
use Rattle.ply.specs.declared.Counts.{Counts}
use Rattle.ply.specs.declared.Refusal.{Refusal}
use Rattle.ply_write.specs.Form.{PlyFile}
use Rattle.ply.specs.Answers.{counted, SizesOf}
use Rattle.ply_write.specs.Example.{example_words, example_triangles, example_file, empty_file, file-is, empty-is}
use Rattle.ply.proofs.Promises.{sizes-file}

pub example_file_lem : PlyFile example_file example_words example_triangles
unfolding All
example_file_lem = record {
  fit = record { whole_words = refl; whole_triangles = refl; vertices = omega arith; faces = omega arith; below = (omega arith, (omega arith, (omega arith, (omega arith, (omega arith, (omega arith, tt)))))) };
  words = (omega arith, (omega arith, (omega arith, (omega arith, (omega arith, (omega arith, (omega arith, (omega arith, (omega arith, tt)))))))));
  is = sym file-is;
}

pub empty_file_lem : PlyFile empty_file [] []
unfolding All
empty_file_lem = record { fit = record { whole_words = refl; whole_triangles = refl; vertices = omega arith; faces = omega arith; below = tt }; words = tt; is = sym empty-is }

pub example_sizes : (r : Result Counts Refusal) → SizesOf example_file r → r ≡ Ok (counted 3 2)
example_sizes r p = sizes-file (record { words = example_words; triangles = example_triangles; file = example_file_lem }) p
