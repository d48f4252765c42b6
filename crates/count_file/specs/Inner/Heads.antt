-- The header, as the private functions answer it on the way. Assumes nothing.
use Rattle.std.specs.Prelude.{◌≡◌, Option, Some, None, List, [], ◌∷◌, ℕ}
use Rattle.lines.specs.Lines.{lines, Fine}
use Rattle.lines.specs.Parts.{Run}
use Rattle.lines.specs.Inner.Readers.{Reads, Absent, Have, Miss}
use Rattle.count_file.specs.declared.Head.{Head}
use Rattle.count_file.specs.declared.Found.{Found}
use Rattle.count_file.specs.declared.Threshold.{Threshold}
use Rattle.count_file.specs.CountFile.{inside_form, head_parts, inside_base, Says, head_runs}

-- the line inside=: its bits and the place after it, or those of 1.0e-9 and the same place
pub data ThresholdOf (s : List ℕ) (at : ℕ) (r : Threshold) : Type 0 where
  there : Reads (lines inside_form) (Fine inside_form) s at (r.bits ∷ []) r.next → ThresholdOf s at r
  left_out : Absent (lines inside_form) (Fine inside_form) s at → r ≡ record { bits = inside_base; next = at } → ThresholdOf s at r

-- the header
pub record FoundHead (s : List ℕ) (h : Head) (next : ℕ) : Type 0 where
  pub run : Run
  pub says : Says run h.inside
  pub have : Have head_parts s 0 (head_runs run h) next

abbrev pub FoundOf : List ℕ → Option Found → Type 0
FoundOf s None = Miss head_parts s 0
FoundOf s (Some r) = FoundHead s r.head r.next
