-- A file that is begun, as the private function `begin` answers it. Assumes nothing.
use Rattle.std.specs.Prelude.{◌≡◌, List, ℕ, ◌/◌, ◌≤◌, ◌<◌, length, Result, Ok, Err}
use Rattle.laws.specs.Written.{Written}
use Rattle.ply_write.specs.declared.Refusal.{Refusal}
use Rattle.ply_write.specs.declared.Refusal.TheVariants.{Unfit, NoRoom}
use Rattle.ply_write.specs.Form.{head_text, count_of, size_of, Fits}

-- a file of n coordinates begun: the header stands in front, and there is room for all of it
pub record Started (n : ℕ) (ts l l' : List ℕ) (a : ℕ) : Type 0 where
  pub fit : Fits n ts
  pub room : size_of (n / 3) (count_of ts) ≤ length l
  pub head : Written l 0 (head_text (n / 3) (count_of ts)) l' a

pub data BeginOf (n : ℕ) (ts l l' : List ℕ) (r : Result ℕ Refusal) : Type 0 where
  begun : (a : ℕ) → Started n ts l l' a → r ≡ Ok a → BeginOf n ts l l' r
  misfit : (Fits n ts → ⊥) → l' ≡ l → r ≡ Err Unfit → BeginOf n ts l l' r
  short : Fits n ts → length l < size_of (n / 3) (count_of ts) → l' ≡ l → r ≡ Err NoRoom → BeginOf n ts l l' r
