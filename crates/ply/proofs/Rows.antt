-- The table of examples holds: computed, by the laws of the header, the body and the promises. Assumes nothing.
use mathlib.Core.Path.{◌≡◌, refl}
use mathlib.Core.Bool.{true, false}
use mathlib.Core.List.{List, [], ◌∷◌, ◌++◌}
use Prim.Native.Nat.{ℕ, ◌≤◌, ◌<◌}
use native.Mathlib.Omega.{arith}
use lib.ListN.{length, drop, get_or}
use Rattle.laws.specs.Lists.{All}
use Rattle.laws.specs.Ranges.{each}
use Rattle.little_endian.specs.Bytes.{bytes_of, value_of, number_at}
use Rattle.lines.specs.Numbers.{digits, dec}
use Rattle.lines.specs.Lines.{dec_end, dec_line, Small}
use Rattle.lines.specs.Inner.Readers as text
use Rattle.lines.proofs.Keys.{no_key, after-key}
use Rattle.lines.proofs.ReadDecimal.{bad-zero, bad_long, no_digit}
use Rattle.std.specs.Prelude.{None, Err}
use Rattle.ply_write.specs.declared.Refusal.TheVariants.{Unfit}
use Rattle.ply.specs.declared.Refusal.TheVariants.{NoHeader, NoBody}
use Rattle.ply_write.specs.Form.{opening, middle, closing, head_text, words_text, face_text, faces_text, ply_text, Fit, PlyFile, OfKind, Headed}
use Rattle.ply.specs.Inner.Parts.{HeaderAt, Body}
use Rattle.ply_write.specs.Answers.{file_length, done, unfit, no_room}
use Rattle.ply.specs.Answers.{no_header, no_body, unread}
use Rattle.ply.specs.Rows.{small_words, small_face, small, head_with, Answers, WritesIn, Readers, Writers}
use Rattle.ply.proofs.Heads.{no_opening, no_middle, no_closing, header_headed}
use Rattle.ply.proofs.Files.{kind_body}
use Rattle.ply_write.proofs.Promises.{write_unique}
use Rattle.ply.proofs.Promises.{sizes_unique, sizes-file, read_file, eleven_exactly}

-- ---- how a row is shown

nine : (s : List ℕ) → (Headed s → ⊥) → Answers s (Err NoHeader)
nine s z r q = sizes_unique q (unread NoHeader (no_header z refl) refl)

ten : (s : List ℕ) (v f next : ℕ) → HeaderAt s v f next → (Body s v f next → ⊥) → Answers s (Err NoBody)
ten s v f next h z r q = sizes_unique q (unread NoBody (no_body (header_headed s v f next h) (λ k. z (kind_body s v f next h k)) refl) refl)

-- not the first lines, and a first number that is none
front : (s : List ℕ) → text.starts opening s ≡ false → Answers s (Err NoHeader)
front s e = nine s (no_opening s (no_key dec_end Small s 0 opening e))

number : (s : List ℕ) → text.starts opening s ≡ true → text.Absent dec_end Small s 51 → Answers s (Err NoHeader)
number s e a = nine s (no_opening s (after-key dec_end Small s 0 opening e None a))

-- one vertex, and not the lines between, or one face, and not the last lines
between : (s : List ℕ) → text.Reads (dec_line opening) Small s 0 1 53 → text.starts middle (drop 53 s) ≡ false → Answers s (Err NoHeader)
between s p e = nine s (no_middle s 1 53 p (no_key dec_end Small s 53 middle e))

last : (s : List ℕ) → text.Reads (dec_line opening) Small s 0 1 53 → text.Reads (dec_line middle) Small s 53 1 122 → text.starts closing (drop 122 s) ≡ false → Answers s (Err NoHeader)
last s p q e = nine s (no_closing s 1 53 p 1 122 q e)

-- ---- files

small-file : PlyFile small small_words small_face
unfolding All
small-file = record {
  fit = record { whole_words = refl; whole_triangles = refl; vertices = omega arith; faces = omega arith; below = (omega arith, (omega arith, (omega arith, tt))) };
  words = (omega arith, (omega arith, (omega arith, tt)));
  is = refl;
}

small_kind : OfKind small
small_kind = record { words = small_words; triangles = small_face; file = small-file }

empty_kind : OfKind (ply_text [] [])
unfolding All
empty_kind = record {
  words = [];
  triangles = [];
  file = record { fit = record { whole_words = refl; whole_triangles = refl; vertices = omega arith; faces = omega arith; below = tt }; words = tt; is = refl };
}

-- its header stands in front of a changed body
headed : (s : List ℕ) → s ≡ head_text 1 1 ++ drop 172 s → HeaderAt s 1 1 172
unfolding head_text dec digits
headed s e = record { small_v = omega arith; small_f = omega arith; here = e; past = refl }

short_of : (s : List ℕ) (n : ℕ) → s ≡ head_text 1 1 ++ drop 172 s → length s ≡ n → (n ≡ 209 → ⊥) → Answers s (Err NoBody)
short_of s n e l z = ten s 1 1 172 (headed s e) (λ b. z (omega (arith, b.full, l)))

bad_byte : (s : List ℕ) (n : ℕ) → s ≡ head_text 1 1 ++ drop 172 s → get_or s 196 0 ≡ n → (n ≡ 3 → ⊥) → Answers s (Err NoBody)
bad_byte s n e l z = ten s 1 1 172 (headed s e) (λ b. z (omega (arith, (b.faces 0 (omega arith)).threes, l)))

bad-first : (s : List ℕ) (n : ℕ) → s ≡ head_text 1 1 ++ drop 172 s → number_at 4 s 197 ≡ n → (n < 1 → ⊥) → Answers s (Err NoBody)
bad-first s n e l z = ten s 1 1 172 (headed s e) (λ b. z (omega (arith, (b.faces 0 (omega arith)).first, l)))

bad-third : (s : List ℕ) (n : ℕ) → s ≡ head_text 1 1 ++ drop 172 s → number_at 4 s 205 ≡ n → (n < 1 → ⊥) → Answers s (Err NoBody)
bad-third s n e l z = ten s 1 1 172 (headed s e) (λ b. z (omega (arith, (b.faces 0 (omega arith)).third, l)))

one_vertex : (s : List ℕ) → drop 0 s ≡ dec_line opening 1 ++ drop 53 s → 53 ≤ length s → text.Reads (dec_line opening) Small s 0 1 53
unfolding dec digits
one_vertex s e h = record { fine = omega arith; here = e; past = refl; within = h }

one-face : (s : List ℕ) → drop 53 s ≡ dec_line middle 1 ++ drop 122 s → 122 ≤ length s → text.Reads (dec_line middle) Small s 53 1 122
unfolding dec digits
one-face s e h = record { fine = omega arith; here = e; past = refl; within = h }

abbrev with_zero : List ℕ
with_zero = head_with (48 ∷ 49 ∷ []) (49 ∷ []) ++ drop 172 small

abbrev with_none : List ℕ
with_none = head_with [] (49 ∷ []) ++ drop 172 small

abbrev with_ten : List ℕ
with_ten = head_with (49 ∷ 48 ∷ 48 ∷ 48 ∷ 48 ∷ 48 ∷ 48 ∷ 48 ∷ 48 ∷ 48 ∷ []) (48 ∷ [])

-- THE READERS' ROWS
pub readers : Readers
unfolding ply_text head_text words_text faces_text face_text bytes_of value_of number_at each dec digits text.starts small_kind empty_kind
readers = record {
  whole = λ r q. sizes-file small_kind q;
  nothing = λ r q. sizes-file empty_kind q;
  cr = front _ refl;
  comment = front _ refl;
  float = between _ (one_vertex _ refl (omega arith)) refl;
  uint = last _ (one_vertex _ refl (omega arith)) (one-face _ refl (omega arith)) refl;
  no_last_lf = last _ (one_vertex _ refl (omega arith)) (one-face _ refl (omega arith)) refl;
  none = front _ refl;
  needless_zero = number _ refl (bad-zero with_zero 51 0 52 (record { small = omega arith; here = refl; far = refl; within = omega arith }) (omega arith) (record { low = omega arith; high = omega arith }) refl);
  no_digit = number _ refl (no_digit with_none 51 (omega arith) (λ d. omega (arith, d.low)));
  ten_digits = number _ refl (bad_long with_ten 51 100000000 60 (record { small = omega arith; here = refl; far = refl; within = omega arith }) (omega arith) (record { low = omega arith; high = omega arith }) (omega arith));
  nine_digits = ten _ 999999999 0 180 (record { small_v = omega arith; small_f = omega arith; here = refl; past = refl }) (λ b. omega (arith, b.full));
  one-short = short_of _ 208 refl refl (λ e. omega (arith, e));
  one_more = short_of _ 210 refl refl (λ e. omega (arith, e));
  two = bad_byte _ 2 refl refl (λ e. omega (arith, e));
  four = bad_byte _ 4 refl refl (λ e. omega (arith, e));
  index_v = bad-third _ 1 refl refl (λ e. omega (arith, e));
  top_bit = bad-first _ 2147483648 refl refl (λ e. omega (arith, e));
  all_ones = bad-first _ 4294967295 refl refl (λ e. omega (arith, e));
  full = λ l m l' m' r a b q. (read_file small_kind (record { words = omega (arith, a); triangles = omega (arith, b) }) q).answer;
  few_words = λ l m l' m' r a b q. (eleven_exactly small_kind q).1 (λ o. omega (arith, a, o.words));
  few_indices = λ l m l' m' r a b q. (eleven_exactly small_kind q).1 (λ o. omega (arith, b, o.triangles));
}

-- ---- lists

unfit-row : (ws ts : List ℕ) (n : ℕ) → (Fit ws ts → ⊥) → WritesIn ws ts n (Err Unfit)
unfit-row ws ts n z l l' r h q = (write_unique q (unfit z refl refl)).1

-- THE WRITERS' ROWS
pub writers : Writers
unfolding ply_text head_text words_text faces_text face_text bytes_of each dec digits file_length All empty_kind
writers = record {
  full = λ l l' r h q. (write_unique q (done small-file (omega (arith, h)) refl refl)).1;
  few_bytes = λ l l' r h q. (write_unique q (no_room small-file.fit (omega (arith, h)) refl refl)).1;
  nothing = λ l l' r h q. (write_unique q (done empty_kind.file (omega (arith, h)) refl refl)).1;
  two_words = unfit-row (0 ∷ 0 ∷ []) [] 999 (λ f. omega (arith, f.whole_words));
  four_indices = unfit-row small_words (0 ∷ 0 ∷ 0 ∷ 0 ∷ []) 999 (λ f. omega (arith, f.whole_triangles));
  index_v = unfit-row small_words (0 ∷ 0 ∷ 1 ∷ []) 999 (λ f. omega (arith, f.below.1.1.0));
  no_vertex = unfit-row [] small_face 999 (λ f. omega (arith, f.below.0));
  lowest = unfit-row small_words (0 ∷ 0 ∷ 1 ∷ []) 0 (λ f. omega (arith, f.below.1.1.0));
  most_vertices = record { whole_words = refl; whole_triangles = refl; vertices = omega arith; faces = omega arith; below = tt };
  more_vertices = λ f. omega (arith, f.vertices);
  longest = refl;
  none_longer = refl;
  nor_faces = refl;
}
