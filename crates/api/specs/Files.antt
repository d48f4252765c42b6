-- What the functions on PLY files answer to a caller from C or Rust: the status as the result, the rest in lists of fixed length, always written.
-- Assumes nothing.
use Rattle.std.specs.Prelude.{◌≡◌, List, [], ◌∷◌, ℕ, Result, Ok, Err}
use Rattle.ply_write.specs.declared.Refusal as writer
use Rattle.ply.specs.declared.Refusal as reader
use Rattle.ply.specs.declared.Counts.{Counts}
use Rattle.ply_write.specs.Answers as written
use Rattle.ply.specs.Answers as read

-- a writer's answer in numbers: 0 and the length, or the refusal's number and 0
abbrev pub write_status : Result ℕ writer.Refusal → ℕ
write_status (Ok n) = 0
write_status (Err e) = written.number_of e

abbrev pub write_length : Result ℕ writer.Refusal → ℕ
write_length (Ok n) = n
write_length (Err e) = 0

-- a reader's: 0 and the two counts, or the refusal's number and zeros
abbrev pub read_status : Result Counts reader.Refusal → ℕ
read_status (Ok c) = 0
read_status (Err e) = read.number_of e

abbrev pub read_counts : Result Counts reader.Refusal → List ℕ
read_counts (Ok c) = c.vertices ∷ c.faces ∷ []
read_counts (Err e) = 0 ∷ 0 ∷ []

-- r and the list n are the answer of a writer
pub record PlyWritten (ws ts l l' : List ℕ) (r : ℕ) (n : List ℕ) : Type 0 where
  pub wrote : Result ℕ writer.Refusal
  pub is : written.WriteOf ws ts l l' wrote
  pub status : r ≡ write_status wrote
  pub length : n ≡ write_length wrote ∷ []

-- r and the list n are those of a reader
pub record PlySized (s : List ℕ) (r : ℕ) (n : List ℕ) : Type 0 where
  pub counts : Result Counts reader.Refusal
  pub is : read.SizesOf s counts
  pub status : r ≡ read_status counts
  pub numbers : n ≡ read_counts counts

pub record PlyRead (s l m l' m' : List ℕ) (r : ℕ) (n : List ℕ) : Type 0 where
  pub counts : Result Counts reader.Refusal
  pub is : read.ReadOf s l m l' m' counts
  pub status : r ≡ read_status counts
  pub numbers : n ≡ read_counts counts
