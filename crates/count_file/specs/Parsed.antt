-- What is read from a count file: the whole answer for every input, a refusal where it is none. Assumes nothing.
use Rattle.std.specs.Prelude.{◌≡◌, Option, Some, None, List, ℕ, length}
use Rattle.laws.specs.Filling.{padded}
use Rattle.count_file.specs.declared.Head.{Head}
use Rattle.count_file.specs.declared.Parsed.{Parsed}
use Rattle.count_file.specs.CountFile.{CountFile}

-- the answer for the file of the header h and the samples ss
abbrev pub accepted : Head → List ℕ → Parsed
accepted h ss = record { head = h; sites = length ss; samples = padded 216 0 ss }

pub record Accepted (s : List ℕ) (r : Parsed) : Type 0 where
  pub samples : List ℕ
  pub file : CountFile s r.head samples
  pub is : r ≡ accepted r.head samples

pub record Refused (s : List ℕ) : Type 0 where
  pub none : (h : Head) (ss : List ℕ) → CountFile s h ss → ⊥

abbrev pub ParsedOf : List ℕ → Option Parsed → Type 0
ParsedOf s None = Refused s
ParsedOf s (Some r) = Accepted s r
