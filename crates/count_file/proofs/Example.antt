-- The example file (docs/SCOPE.md, S10.6) is a count file of its values, and is read as these, with the line of the threshold and without. Assumes nothing.
use mathlib.Core.Path.{◌≡◌, refl, sym, subst}
use mathlib.Core.List.{List}
use Prim.Native.Nat.{ℕ}
use native.Mathlib.Omega.{arith}
use Rattle.lines.specs.Parts.{Left, done, must, left}
use Rattle.count_file.specs.declared.Parsed.{Parsed}
use Rattle.std.specs.Prelude.{Option, Some}
use Rattle.count_file.specs.CountFile.{sizes_form, origin_form, steps_form, unsaid, body_form, CountFile}
use Rattle.count_file.specs.Parsed.{accepted, ParsedOf}
use Rattle.count_file.specs.Example.{example_head, example_samples, example_file, example_said, file-is, said-is}
use Rattle.lines.proofs.Lines.{fine_test, fine_tested}
use Rattle.count_file.proofs.Files.{file_parsed, old_said}

pub example_file_lem : CountFile example_file example_head example_samples
unfolding fine_test
example_file_lem = record {
  run = Left;
  says = unsaid;
  head = must (fine_tested sizes_form example_head.sizes refl) (left (must (fine_tested origin_form example_head.origin refl) (must (fine_tested steps_form example_head.steps refl) done)));
  size = record { some_u = omega arith; some_v = omega arith; some_w = omega arith; most = omega arith };
  body = fine_tested (body_form 27) example_samples refl;
  is = sym file-is;
}

pub example_read : (r : Option Parsed) → ParsedOf example_file r → r ≡ Some (accepted example_head example_samples)
example_read r p = file_parsed example_file example_head example_samples r example_file_lem p

pub example_said_lem : CountFile example_said example_head example_samples
unfolding example_file_lem
example_said_lem = subst (λ (s : List ℕ). CountFile s example_head example_samples) said-is (old_said example_file example_head example_samples example_file_lem refl)

pub said_read : (r : Option Parsed) → ParsedOf example_said r → r ≡ Some (accepted example_head example_samples)
said_read r p = file_parsed example_said example_head example_samples r example_said_lem p
