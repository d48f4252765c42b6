-- A run of lines as it was read into a list: the whole of it, or the lines before the first one that is not there. Assumes nothing.
use Rattle.std.specs.Prelude.{◌≡◌, Option, Some, None, List, [], ℕ, ◌≤◌, ◌<◌, length, drop, take, get_or}
use Rattle.lines.specs.Lines.{Field, Dec, line_of, ok_of, lines, Fine}
use Rattle.lines.specs.Inner.Readers.{Reads, Absent}

-- n numbers from a place on, stored in front of what l had
pub record Stored (form : List Field) (s : List ℕ) (from n : ℕ) (l l' : List ℕ) (next : ℕ) : Type 0 where
  pub reads : Reads (lines form) (Fine form) s from (take n l') next
  pub past : drop n l' ≡ drop n l
  pub full : length l' ≡ length l

-- the first k lines were read, and `at` is past them
pub record Filled (form : List Field) (s : List ℕ) (from : ℕ) (l vals : List ℕ) (at k : ℕ) : Type 0 where
  pub some : k ≤ length form
  pub full : length vals ≡ length l
  pub reads : Reads (lines (take k form)) (Fine (take k form)) s from (take k vals) at
  pub past : drop k vals ≡ drop k l

-- and the next one is not there
pub record Stopped (form : List Field) (s : List ℕ) (from : ℕ) (l l' : List ℕ) : Type 0 where
  pub count : ℕ
  pub place : ℕ
  pub filled : Filled form s from l l' place count
  pub short : count < length form
  pub missing : Absent (line_of (get_or form count (Dec []))) (ok_of (get_or form count (Dec []))) s place

abbrev pub RunOf : List Field → List ℕ → ℕ → ℕ → List ℕ → List ℕ → Option ℕ → Type 0
RunOf form s from n l l' None = Stopped form s from l l'
RunOf form s from n l l' (Some next) = Stored form s from n l l' next
