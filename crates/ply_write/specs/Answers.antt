-- What the writers of PLY files answer, and their refusals, which store nothing. Assumes nothing.
use Rattle.std.specs.Prelude.{◌≡◌, ◌&&◌, cond, List, map, ℕ, ◌≤◌, ◌<◌, ltb, Float, length, Result, Ok, Err}
use Rattle.std.specs.Float.{binary64}
use Rattle.std.specs.Float.Ieee.{to_bits}
use Rattle.std.proofs.lemmas.List.Edits.{sets}
use Rattle.ply_write.specs.declared.Refusal.{Refusal}
use Rattle.ply_write.specs.declared.Refusal.TheVariants.{Unfit, NoRoom}
use Rattle.ply_write.specs.Form.{ply_text, size_of, Fit, PlyFile}

-- a refusal as the number that C is told
abbrev pub number_of : Refusal → ℕ
number_of Unfit = 10
number_of NoRoom = 11

-- how long the file of v vertices and f faces is, 0 where there is none
unfoldable pub file_length : ℕ → ℕ → ℕ
file_length v f = cond (ltb v 1000000000 && ltb f 1000000000) (size_of v f) 0

-- the bit patterns of floats
abbrev pub bits_of : List Float → List ℕ
bits_of ps = map (to_bits binary64) ps

-- the file of ws and ts goes to the front of l, which l' is afterwards; Unfit where the lists do not fit, NoRoom where l is too short
pub data WriteOf (ws ts l l' : List ℕ) (r : Result ℕ Refusal) : Type 0 where
  done : PlyFile (ply_text ws ts) ws ts → length (ply_text ws ts) ≤ length l → l' ≡ sets l 0 (ply_text ws ts) → r ≡ Ok (length (ply_text ws ts)) → WriteOf ws ts l l' r
  unfit : (Fit ws ts → ⊥) → l' ≡ l → r ≡ Err Unfit → WriteOf ws ts l l' r
  no_room : Fit ws ts → length l < length (ply_text ws ts) → l' ≡ l → r ≡ Err NoRoom → WriteOf ws ts l l' r
