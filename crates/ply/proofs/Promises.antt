-- What the promises come to: read after write and write after read; any two answers are equal; each refusal and none are given exactly by the definition,
-- and NoRoom by the room. Assumes nothing.
use mathlib.Core.Path.{◌≡◌, sym, ap, ◌∙◌}
use mathlib.Core.List.{List}
use Prim.Native.Nat.{ℕ, ◌*◌, ◌≤◌}
use native.Mathlib.Omega.{arith}
use lib.ListN.{length, take}
use lib.Seq.{sets}
use Rattle.laws.proofs.Written.{front_take}
use Rattle.std.specs.Prelude.{Result, Ok, Err, IsOk, IsErr}
use Rattle.std.specs.Result.{is_ok, is_err}
use Rattle.std.proofs.lemmas.Bool.{false≢true}
use Rattle.ply_write.specs.declared.Refusal.{Refusal as WriteRefusal}
use Rattle.ply.specs.declared.Counts.{Counts}
use Rattle.ply.specs.declared.Refusal.{Refusal}
use Rattle.ply.specs.declared.Refusal.TheVariants.{NoHeader, NoBody, NoRoom}
use Rattle.ply_write.specs.Form.{count_of, OfKind, Headed}
use Rattle.ply_write.specs.Answers.{WriteOf}
use Rattle.ply.specs.Answers.{counted, counts_of, Unread, no_header, no_body, SizesOf, known, unread, RoomFor, Unstored, not_read, no_place, ReadOf, stored, unstored}
use Rattle.ply.proofs.Files.{kind_words, kind_triangles, kind_counts, kind_headed}
use Rattle.ply_write.proofs.Promises.{written-file, WrittenBack, write-file}

abbrev Answer : Type 0
Answer = Result Counts Refusal

-- ---- why a file is not read or not stored

pub unread_kind : {s : List ℕ} {n : Refusal} → Unread s n → OfKind s → ⊥
unread_kind (no_header z e) k = z (kind_headed k)
unread_kind (no_body h z e) k = z k

pub unread-same : {s : List ℕ} {n m : Refusal} → Unread s n → Unread s m → n ≡ m
unread-same (no_header z e) (no_header y d) = e ∙ sym d
unread-same (no_header z e) (no_body h y d) = absurd (z h)
unread-same (no_body h z e) (no_header y d) = absurd (y h)
unread-same (no_body h z e) (no_body g y d) = e ∙ sym d

-- whether there is room does not depend on how the file is shown to be one
room-same : {s : List ℕ} {a b : ℕ} (j k : OfKind s) → RoomFor j a b → RoomFor k a b
room-same j k r = record { words = rw (kind_words j k) at r.words; triangles = rw (kind_triangles j k) at r.triangles }

unstored-room : {s : List ℕ} {a b : ℕ} {n : Refusal} → Unstored s a b n → (k : OfKind s) → RoomFor k a b → ⊥
unstored-room (not_read u) k r = unread_kind u k
unstored-room (no_place j z e) k r = z (room-same k j r)

unstored-same : {s : List ℕ} {a b : ℕ} {n m : Refusal} → Unstored s a b n → Unstored s a b m → n ≡ m
unstored-same (not_read u) (not_read w) = unread-same u w
unstored-same (not_read u) (no_place k z e) = absurd (unread_kind u k)
unstored-same (no_place k z e) (not_read u) = absurd (unread_kind u k)
unstored-same (no_place j z e) (no_place k y d) = e ∙ sym d

-- ---- ANY TWO CONFORMING ANSWERS ARE EQUAL

pub sizes_unique : {s : List ℕ} {r q : Answer} → SizesOf s r → SizesOf s q → r ≡ q
sizes_unique (known j e) (known k d) = e ∙ ap Ok (kind_counts j k) ∙ sym d
sizes_unique (known j e) (unread m w d) = absurd (unread_kind w j)
sizes_unique (unread n u e) (known k d) = absurd (unread_kind u k)
sizes_unique (unread n u e) (unread m w d) = e ∙ ap Err (unread-same u w) ∙ sym d

pub read_unique : {s l m a b c d : List ℕ} {r q : Answer} → ReadOf s l m a b r → ReadOf s l m c d q → (a ≡ c) × (b ≡ d) × (r ≡ q)
read_unique {l = l} {m = m} (stored j o x y e) (stored k i x' y' e') =
    (x ∙ ap (sets l 0) (kind_words j k) ∙ sym x', y ∙ ap (sets m 0) (kind_triangles j k) ∙ sym y', e ∙ ap Ok (kind_counts j k) ∙ sym e')
read_unique (stored j o x y e) (unstored n u x' y' e') = absurd (unstored-room u j o)
read_unique (unstored n u x y e) (stored k i x' y' e') = absurd (unstored-room u k i)
read_unique (unstored n u x y e) (unstored i w x' y' e') = (x ∙ sym x', y ∙ sym y', e ∙ ap Err (unstored-same u w) ∙ sym e')

-- ---- READ AFTER WRITE

-- the words ws and the indices ts stand at the fronts of the lists
pub record ReadBack (ws ts l m l' m' : List ℕ) (r : Answer) : Type 0 where
  pub words : l' ≡ sets l 0 ws
  pub triangles : m' ≡ sets m 0 ts
  pub answer : r ≡ Ok (counted (count_of ws) (count_of ts))

-- a file of the kind is read wherever there is room for it
pub read_file : {s l m l' m' : List ℕ} {r : Answer} (k : OfKind s) → RoomFor k (length l) (length m) → ReadOf s l m l' m' r → ReadBack k.words k.triangles l m l' m' r
read_file {l = l} {m = m} k o (stored j i x y e) =
    record {
      words = x ∙ ap (sets l 0) (kind_words j k);
      triangles = y ∙ ap (sets m 0) (kind_triangles j k);
      answer = e ∙ ap Ok (kind_counts j k);
    }
read_file k o (unstored n u x y e) = absurd (unstored-room u k o)

-- what was written reads back as the same words and indices
pub read-after-write : {ws ts out out' : List ℕ} {n : ℕ} → WriteOf ws ts out out' (Ok n)
    → {l m l' m' : List ℕ} {r : Answer} → length ws ≤ length l → length ts ≤ length m → ReadOf (take n out') l m l' m' r → ReadBack ws ts l m l' m' r
read-after-write {ws} {ts} p h g q = read_file (record { words = ws; triangles = ts; file = written-file p }) (record { words = h; triangles = g }) q

-- ---- WRITE AFTER READ

-- what was read, written again, is the same bytes
pub write-after-read : {s l m l' m' : List ℕ} {r : Counts} → ReadOf s l m l' m' (Ok r)
    → {out out' : List ℕ} {w : Result ℕ WriteRefusal} → length s ≤ length out → WriteOf (take (r.vertices * 3) l') (take (r.faces * 3) m') out out' w → WrittenBack s out out' w
write-after-read {l = l} {m = m} {l' = l'} {m' = m'} {r = r} (stored k o x y e) i q =
    let d : r ≡ counts_of k = cc in
    let a : r.vertices * 3 ≡ length k.words = omega (arith, ap (λ (c : Counts). c.vertices) d, k.file.fit.whole_words) in
    let b : r.faces * 3 ≡ length k.triangles = omega (arith, ap (λ (c : Counts). c.faces) d, k.file.fit.whole_triangles) in
    let u : take (r.vertices * 3) l' ≡ k.words = front_take k.words l' l (r.vertices * 3) x o.words a in
    let t : take (r.faces * 3) m' ≡ k.triangles = front_take k.triangles m' m (r.faces * 3) y o.triangles b in
    write-file k i (rw (u, t) at q)
write-after-read (unstored n u x y e) i q = absurd (cc)

-- ---- EACH REFUSAL AND NONE EXACTLY BY THE DEFINITION, NoRoom BY THE ROOM

pub sizes-file : {s : List ℕ} (k : OfKind s) {r : Answer} → SizesOf s r → r ≡ Ok (counts_of k)
sizes-file k (known j e) = e ∙ ap Ok (kind_counts j k)
sizes-file k (unread n u e) = absurd (unread_kind u k)

not-both : {r : Answer} {e : Refusal} → IsOk r → r ≡ Err e → ⊥
not-both z e = false≢true (sym (ap is_ok e) ∙ z)

pub good_exactly : {s : List ℕ} {r : Answer} → SizesOf s r → (IsOk r → OfKind s) × (OfKind s → IsOk r)
good_exactly (known k e) = (λ z. k, λ j. ap is_ok e)
good_exactly (unread n u e) = (λ z. absurd (not-both z e), λ k. absurd (unread_kind u k))

pub nine_exactly : {s : List ℕ} {r : Answer} → SizesOf s r → (r ≡ Err NoHeader → Headed s → ⊥) × ((Headed s → ⊥) → r ≡ Err NoHeader)
nine_exactly (known k e) = (λ z. absurd (cc), λ n. absurd (n (kind_headed k)))
nine_exactly (unread n (no_header h o) e) = (λ z. h, λ y. e ∙ ap Err o)
nine_exactly (unread n (no_body h k o) e) = (λ z. absurd (cc), λ y. absurd (y h))

pub ten_exactly : {s : List ℕ} {r : Answer} → SizesOf s r → (r ≡ Err NoBody → Headed s × (OfKind s → ⊥)) × (Headed s → (OfKind s → ⊥) → r ≡ Err NoBody)
ten_exactly (known k e) = (λ z. absurd (cc), λ h y. absurd (y k))
ten_exactly (unread n (no_header x o) e) = (λ z. absurd (cc), λ h y. absurd (x h))
ten_exactly (unread n (no_body h k o) e) = (λ z. (h, k), λ g y. e ∙ ap Err o)

pub some_header : {s : List ℕ} {r : Answer} → SizesOf s r → (r ≡ Err NoHeader → ⊥) → Headed s
some_header (known k e) z = kind_headed k
some_header (unread n (no_header h o) e) z = absurd (z (e ∙ ap Err o))
some_header (unread n (no_body h k o) e) z = h

-- a reader answers as `sizes` does, but for the room
pub read-sizes : {s l m l' m' : List ℕ} {r q : Answer} → ReadOf s l m l' m' r → SizesOf s q → (r ≡ Err NoRoom → ⊥) → r ≡ q
read-sizes (stored k o x y e) b z = e ∙ sym (sizes-file k b)
read-sizes (unstored n (not_read u) x y e) b z = sizes_unique (unread n u e) b
read-sizes (unstored n (no_place k o i) x y e) b z = absurd (z (e ∙ ap Err i))

-- of a file of the kind: NoRoom exactly if a list is too short for it
pub eleven_exactly : {s l m l' m' : List ℕ} {r : Answer} (k : OfKind s) → ReadOf s l m l' m' r
    → (r ≡ Err NoRoom → RoomFor k (length l) (length m) → ⊥) × ((RoomFor k (length l) (length m) → ⊥) → r ≡ Err NoRoom)
eleven_exactly k (stored j o x y e) = (λ z. absurd (cc), λ n. absurd (n (room-same j k o)))
eleven_exactly k (unstored n (not_read u) x y e) = absurd (unread_kind u k)
eleven_exactly k (unstored n (no_place j o i) x y e) = (λ z q. o (room-same k j q), λ z. e ∙ ap Err i)

-- nothing is stored where it is refused
pub read_keeps : {s l m l' m' : List ℕ} {r : Answer} → ReadOf s l m l' m' r → (IsOk r → ⊥) → (l' ≡ l) × (m' ≡ m) × IsErr r
read_keeps (stored k o x y e) z = absurd (z (ap is_ok e))
read_keeps (unstored n u x y e) z = (x, y, ap is_err e)
