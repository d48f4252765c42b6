-- What the readers of PLY files answer, and their refusals, which store nothing. Assumes nothing.
use Rattle.std.specs.Prelude.{◌≡◌, List, ℕ, ◌≤◌, length, Result, Ok, Err}
use Rattle.std.proofs.lemmas.List.Edits.{sets}
use Rattle.ply.specs.declared.Counts.{Counts}
use Rattle.ply.specs.declared.Refusal.{Refusal}
use Rattle.ply.specs.declared.Refusal.TheVariants.{NoHeader, NoBody, NoRoom}
use Rattle.ply_write.specs.Form.{count_of, OfKind, Headed}

-- a refusal as the number that C is told
abbrev pub number_of : Refusal → ℕ
number_of NoHeader = 9
number_of NoBody = 10
number_of NoRoom = 11

abbrev pub counted : ℕ → ℕ → Counts
counted v f = record { vertices = v; faces = f }

abbrev pub counts_of : {s : List ℕ} → OfKind s → Counts
counts_of k = counted (count_of k.words) (count_of k.triangles)

-- e is why s is not read: NoHeader where it begins with no header of the kind, NoBody where it begins with one and is no file of the kind
pub data Unread (s : List ℕ) (e : Refusal) : Type 0 where
  no_header : (Headed s → ⊥) → e ≡ NoHeader → Unread s e
  no_body : Headed s → (OfKind s → ⊥) → e ≡ NoBody → Unread s e

pub data SizesOf (s : List ℕ) (r : Result Counts Refusal) : Type 0 where
  known : (k : OfKind s) → r ≡ Ok (counts_of k) → SizesOf s r
  unread : (e : Refusal) → Unread s e → r ≡ Err e → SizesOf s r

-- a places for words and b for indices are enough for the file
pub record RoomFor {s : List ℕ} (k : OfKind s) (a b : ℕ) : Type 0 where
  pub words : length k.words ≤ a
  pub triangles : length k.triangles ≤ b

-- e is why s is not stored: as above, or NoRoom where it is a file of the kind and there is no room for it
pub data Unstored (s : List ℕ) (a b : ℕ) (e : Refusal) : Type 0 where
  not_read : Unread s e → Unstored s a b e
  no_place : (k : OfKind s) → (RoomFor k a b → ⊥) → e ≡ NoRoom → Unstored s a b e

-- the words of the file go to the front of l, its indices to the front of m
pub data ReadOf (s l m l' m' : List ℕ) (r : Result Counts Refusal) : Type 0 where
  stored : (k : OfKind s) → RoomFor k (length l) (length m) → l' ≡ sets l 0 k.words → m' ≡ sets m 0 k.triangles → r ≡ Ok (counts_of k) → ReadOf s l m l' m' r
  unstored : (e : Refusal) → Unstored s (length l) (length m) e → l' ≡ l → m' ≡ m → r ≡ Err e → ReadOf s l m l' m' r
