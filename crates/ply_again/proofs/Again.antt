-- The ways out of `again_text`; what is printed is determined, and is the same where only the first bytes of a long file are looked at. Assumes nothing.
use mathlib.Core.Path.{◌≡◌, refl, sym, ap, ◌∙◌}
use mathlib.Core.List.{List, ◌++◌, append_assoc}
use Prim.Native.Nat.{ℕ, ◌+◌, ◌-◌, ◌*◌, ◌≤◌, ◌<◌}
use native.Mathlib.Nat.{le-min}
use native.Mathlib.Omega.{arith}
use lib.ListN.{length, take, drop, length-take, take-append-drop}
use lib.Seq.{take-append-add}
use Rattle.laws.specs.Written.{Written}
use Rattle.laws.proofs.Written.{written-length, written_unique, within}
use Rattle.lines.specs.Status.{refusal_text}
use Rattle.lines.proofs.Printing.{refusal-length}
use Rattle.lines.proofs.Decimals.{dec-short}
use Rattle.std.specs.Prelude.{Result, Ok, Err, IsOk}
use Rattle.std.specs.Result.{is_ok, is_err, result_eq}
use Rattle.ply_write.specs.declared.Refusal.{Refusal as WriteRefusal}
use Rattle.ply.specs.declared.Counts.{Counts}
use Rattle.ply.specs.declared.Refusal.{Refusal}
use Rattle.ply.specs.declared.Refusal.TheVariants.{NoHeader, NoBody, NoRoom}
use Rattle.ply_write.specs.Form.{head_text, count_of, size_of, OfKind, Headed}
use Rattle.ply_write.specs.Answers.{WriteOf}
use Rattle.ply.specs.Answers.{counted, SizesOf, ReadOf}
use Rattle.ply_write.proofs.Writing.{head_length, file-size}
use Rattle.ply_write.proofs.Promises.{WrittenBack}
use Rattle.ply.proofs.Files.{kind_headed}
use Rattle.ply.proofs.Promises.{good_exactly, nine_exactly, some_header, ReadBack, read_file, write-after-read}
use mathlib.Core.Bool.{Bool, true, false}
use Rattle.ply_again.specs.Again.{AgainText, same, no_header, no_body, too_long, AgainOf}

-- what is printed stands within the bytes that were lent
text-short : {s t : List ℕ} → AgainText 131072 s t → length t ≤ 131072
text-short (same k h) = h
text-short (no_header z) = omega (arith, refusal-length 9)
text-short (no_body h z k) = omega (arith, refusal-length 10)
text-short (too_long h k) = omega (arith, refusal-length 11)

at_front : (s t l l' : List ℕ) (r : ℕ) → length l ≡ 131072 → AgainText 131072 s t → Written l 0 t l' r → AgainOf 131072 s l l' r
at_front s t l l' r h a p = record { text = t; is = a; put = p; within = within r l' (omega (arith, text-short a, p.next, written-length p)) }

-- ---- what the tests of an answer mean

module _ (p : Counts → Counts → Bool) (q : Refusal → Refusal → Bool) where
  pub is_nine : (r : Result Counts Refusal) → q NoBody NoHeader ≡ false → q NoRoom NoHeader ≡ false → true ≡ result_eq p q r (Err NoHeader) → r ≡ Err NoHeader
  is_nine (Ok c) a b h = absurd (cc)
  is_nine (Err NoHeader) a b h = refl
  is_nine (Err NoBody) a b h = absurd (cc)
  is_nine (Err NoRoom) a b h = absurd (cc)

  pub not-nine : (r : Result Counts Refusal) → q NoHeader NoHeader ≡ true → false ≡ result_eq p q r (Err NoHeader) → r ≡ Err NoHeader → ⊥
  not-nine (Ok c) a h e = cc
  not-nine (Err NoHeader) a h e = cc
  not-nine (Err NoBody) a h e = cc
  not-nine (Err NoRoom) a h e = cc

is_good : (r : Result Counts Refusal) → false ≡ is_err r → IsOk r
is_good (Ok c) h = refl
is_good (Err e) h = absurd (cc)

pub not-good : (r : Result Counts Refusal) → true ≡ is_err r → IsOk r → ⊥
not-good (Ok c) h k = cc
not-good (Err e) h k = cc

-- ---- the ways out

module _ (s : List ℕ) (c : Result Counts Refusal) (q : SizesOf s c) where
  pub again_nine : c ≡ Err NoHeader → (l l' : List ℕ) (r : ℕ) → length l ≡ 131072 → Written l 0 (refusal_text 9) l' r → AgainOf 131072 s l l' r
  again_nine z l l' r room p = at_front s _ l l' r room (no_header ((nine_exactly q).0 z)) p

  module _ (n : c ≡ Err NoHeader → ⊥) where
    pub again_long : 131072 < length s → (l l' : List ℕ) (r : ℕ) → length l ≡ 131072 → Written l 0 (refusal_text 11) l' r → AgainOf 131072 s l l' r
    again_long h l l' r room p = at_front s _ l l' r room (too_long (some_header q n) h) p

    pub again_ten : length s ≤ 131072 → (IsOk c → ⊥) → (l l' : List ℕ) (r : ℕ) → length l ≡ 131072 → Written l 0 (refusal_text 10) l' r → AgainOf 131072 s l l' r
    again_ten h z l l' r room p = at_front s _ l l' r room (no_body (some_header q n) (λ k. z ((good_exactly q).1 k)) h) p

-- a file of the kind that is not too long has room in the two lists
module _ (s : List ℕ) (a : Result Counts Refusal) (q : SizesOf s a) (z : false ≡ is_err a) (h : length s ≤ 131072) (us rs us' rs' : List ℕ) (hu : length us ≡ 16384) (hr : length rs ≡ 32768) (d : Result Counts Refusal) (p : ReadOf s us rs us' rs' d) where
  kind : OfKind s
  kind = (good_exactly q).0 (is_good a z)

  long : length s ≡ size_of (count_of kind.words) (count_of kind.triangles)
  long = ap length kind.file.is ∙ file-size kind.words kind.triangles kind.file.fit

  back : ReadBack kind.words kind.triangles us rs us' rs' d
  back = read_file kind (record { words = omega (arith, long, kind.file.fit.whole_words); triangles = omega (arith, long, kind.file.fit.whole_triangles) }) p

  pub is_read : IsOk d
  is_read = ap is_ok back.answer

  module _ (c : Counts) (e : d ≡ Ok c) where
    pub counts-small : (c.vertices ≤ 5461) × (c.faces ≤ 10082)
    counts-small =
        let b = back.answer in
        let x : c ≡ counted (count_of kind.words) (count_of kind.triangles) = cc in
        (omega (arith, ap (λ (k : Counts). k.vertices) x, long), omega (arith, ap (λ (k : Counts). k.faces) x, long))

    module _ (l l' : List ℕ) (w : Result ℕ WriteRefusal) (room : length l ≡ 131072) (o : WriteOf (take (c.vertices * 3) us') (take (c.faces * 3) rs') l l' w) where
      again : WrittenBack s l l' w
      again = let b : ReadOf s us rs us' rs' (Ok c) = rw e at p in write-after-read b (omega arith) o

      pub is_written : IsOk w
      is_written = ap is_ok again.answer

      pub again-done : (r : ℕ) → w ≡ Ok r → AgainOf 131072 s l l' r
      again-done r i =
          let b = again.answer in
          let x : r ≡ length s = cc in
          at_front s s l l' r room (same kind h) (record { buf = again.bytes; next = omega (arith, x) })

-- ---- ANY TWO CONFORMING ANSWERS ARE EQUAL

pub text_unique : {b : ℕ} {s t u : List ℕ} → AgainText b s t → AgainText b s u → t ≡ u
text_unique (same k h) (same j g) = refl
text_unique (same k h) (no_header z) = absurd (z (kind_headed k))
text_unique (same k h) (no_body g z i) = absurd (z k)
text_unique (same k h) (too_long g i) = absurd (omega (arith, h, i))
text_unique (no_header z) (same k h) = absurd (z (kind_headed k))
text_unique (no_header z) (no_header y) = refl
text_unique (no_header z) (no_body g y i) = absurd (z g)
text_unique (no_header z) (too_long g i) = absurd (z g)
text_unique (no_body h z i) (same k g) = absurd (z k)
text_unique (no_body h z i) (no_header y) = absurd (y h)
text_unique (no_body h z i) (no_body g y j) = refl
text_unique (no_body h z i) (too_long g j) = absurd (omega (arith, i, j))
text_unique (too_long h i) (same k g) = absurd (omega (arith, i, g))
text_unique (too_long h i) (no_header y) = absurd (y h)
text_unique (too_long h i) (no_body g y j) = absurd (omega (arith, i, j))
text_unique (too_long h i) (too_long g j) = refl

pub again_unique : {b : ℕ} {s l l' l'' : List ℕ} {r q : ℕ} → AgainOf b s l l' r → AgainOf b s l l'' q → (l' ≡ l'') × (r ≡ q)
again_unique a b = written_unique (rw (text_unique a.is b.is) at a.put) b.put

-- ---- A PROGRAM THAT SEES ONLY THE FIRST n BYTES OF A LONG FILE ANSWERS AS FOR THE WHOLE

-- a header is at most 188 bytes long
head_most : {s : List ℕ} (k : Headed s) → length (head_text k.vertices k.faces) ≤ 188
head_most k = omega (arith, head_length k.vertices k.faces, dec-short k.vertices k.small_v, dec-short k.faces k.small_f)

module _ (s : List ℕ) (n : ℕ) (h : 188 ≤ n) where
  front_headed : Headed s → Headed (take n s)
  front_headed k =
      let x : List ℕ = head_text k.vertices k.faces in
      let m : n ≡ length x + (n - length x) = omega (arith, head_most k) in
      let e : take n s ≡ x ++ take (n - length x) k.rest = ap (take n) k.is ∙ ap (λ (i : ℕ). take i (x ++ k.rest)) m ∙ take-append-add x k.rest (n - length x) in
      record { vertices = k.vertices; faces = k.faces; rest = take (n - length x) k.rest; small_v = k.small_v; small_f = k.small_f; is = e }

  headed_front : Headed (take n s) → Headed s
  headed_front k = record {
    vertices = k.vertices;
    faces = k.faces;
    rest = k.rest ++ drop n s;
    small_v = k.small_v;
    small_f = k.small_f;
    is = sym (take-append-drop n s) ∙ ap (λ (x : List ℕ). x ++ drop n s) k.is ∙ append_assoc (head_text k.vertices k.faces) k.rest (drop n s);
  }

  front_long : (b : ℕ) → b < n → b < length s → b < length (take n s)
  front_long b g i = rw length-take (le-min g i)

  pub again_cut : (b : ℕ) → b < n → b < length s → {t : List ℕ} → AgainText b (take n s) t → AgainText b s t
  again_cut b g i (same k o) = absurd (omega (arith, o, front_long b g i))
  again_cut b g i (no_header z) = no_header (λ k. z (front_headed k))
  again_cut b g i (no_body k z o) = absurd (omega (arith, o, front_long b g i))
  again_cut b g i (too_long k o) = too_long (headed_front k) i
