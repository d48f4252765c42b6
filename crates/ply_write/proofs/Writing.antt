-- Laws of writing a PLY file: a face, the header, how long each part is, and which lists fit. Assumes nothing.
use mathlib.Core.Path.{◌≡◌, refl, sym, ap, ◌∙◌}
use mathlib.Core.List.{List, [], ◌∷◌, ◌++◌}
use Prim.Native.Nat.{ℕ, zero, suc, max, ◌+◌, ◌*◌, ◌/◌, ◌%◌, ◌^◌, ◌≤◌, ◌<◌}
use native.Mathlib.Omega.{arith}
use lib.ListN.{length, get_or, set, take, drop, length-append}
use lib.Seq.{drop-drop}
use Rattle.std.specs.Simd.{first_chunks}
use borrow.Author.Tests.{lt-ltb, le-ltb}
use Rattle.laws.specs.Written.{Written}
use Rattle.laws.proofs.Blocks.{each-length, three}
use Rattle.laws.proofs.Written.{written_one, written-more, written-length}
use Rattle.lines.specs.Numbers.{dec}
use Rattle.lines.specs.Lines.{dec_line}
use Rattle.lines.proofs.Lines.{dec_line-length}
use Rattle.lines.proofs.Decimals.{dec-small, dec-short}
use Rattle.lines.proofs.Printing.{longer}
use Rattle.little_endian.specs.Bytes.{bytes_of}
use Rattle.little_endian.proofs.Bytes.{bytes_length}
use Rattle.ply_write.specs.Form.{opening, middle, closing, head_text, words_text, face_text, faces_text, ply_text, count_of, size_of, Fits, Fit, PlyFile}
use Rattle.std.specs.Prelude.{Ok, Err}
use Rattle.laws.specs.Lists.{All}
use Rattle.ply_write.specs.declared.Refusal.{Refusal}
use Rattle.ply_write.specs.Answers.{file_length, WriteOf, done, unfit, no_room}
use Rattle.ply_write.specs.Inner.Begin.{Started, BeginOf, begun, misfit, short}

-- ---- a face

pub face-length : (a b c : ℕ) → length (face_text a b c) ≡ 13
unfolding face_text bytes_of
face-length a b c = refl

pub put_face : (l l' l'' l''' : List ℕ) (at a b c x y next : ℕ) → Written (set l at 3) (at + 1) (bytes_of 4 a) l' x → Written l' x (bytes_of 4 b) l'' y → Written l'' y (bytes_of 4 c) l''' next
    → Written l at (face_text a b c) l''' next
unfolding face_text
put_face l l' l'' l''' at a b c x y next p q r = written-more (written_one l at 3) (written-more p (written-more q r))

-- ---- how many digits a number has

pub digits_count : (k n : ℕ) → 10 ^ k ≤ n → n < 10 * 10 ^ k → n < 2 ^ 64 → length (dec n) ≡ k + 1
digits_count zero n a b h = ap length (dec-small n (omega arith))
digits_count (suc k) n a b h =
    let p : 10 ^ suc k ≡ 10 * 10 ^ k = omega arith in
    let one : 1 ≤ 10 ^ k = omega arith in
    let i = digits_count k (n / 10) (omega arith) (omega arith) (omega arith) in
    omega (arith, longer n (omega arith) h, i)

-- 0 has as many as 1
pub dec-least : (n : ℕ) → length (dec (max n 1)) ≡ length (dec n)
dec-least zero = ap length (dec-small 1 (omega arith)) ∙ sym (ap length (dec-small 0 (omega arith)))
dec-least (suc n) = let e : max (suc n) 1 ≡ suc n = omega arith in ap (λ (m : ℕ). length (dec m)) e

-- ---- triangles as lists of three

chunk-at : (d : List ℕ) (n k : ℕ) (xs : List ℕ) (i : ℕ) → i < k → get_or (first_chunks n k xs) i d ≡ take n (drop (i * n) xs)
chunk-at d n zero xs i h = absurd (omega arith)
chunk-at d n (suc k) xs zero h = let e : 0 * n ≡ 0 = omega arith in rw e
chunk-at d n (suc k) xs (suc i) h =
    let e : n + i * n ≡ suc i * n = omega arith in
    chunk-at d n k (drop n xs) i (omega arith) ∙ ap (take n) (drop-drop (i * n) n xs ∙ ap (λ (m : ℕ). drop m xs) e)

pub three_at : (d : List ℕ) (n : ℕ) (xs : List ℕ) (i : ℕ) → i < n → n ≡ length xs / 3 → get_or (first_chunks 3 n xs) i d ≡ get_or xs (i * 3) 0 ∷ get_or xs (i * 3 + 1) 0 ∷ get_or xs (i * 3 + 2) 0 ∷ []
three_at d n xs i h e = chunk-at d 3 n xs i h ∙ three 0 xs (i * 3) (omega arith)

-- ---- how long the parts are

pub head_length : (v f : ℕ) → length (head_text v f) ≡ 170 + length (dec v) + length (dec f)
unfolding head_text
head_length v f =
    length-append (dec_line opening v) (dec_line middle f ++ closing)
    ∙ rw (length-append (dec_line middle f) closing, dec_line-length opening v, dec_line-length middle f) (omega arith)

pub words-length : (ws : List ℕ) → length (words_text ws) ≡ length ws * 8
unfolding words_text
words-length ws = each-length 8 (length ws) (λ k. bytes_of 8 (get_or ws k 0)) (λ k. bytes_length 8 (get_or ws k 0))

pub faces-length : (ts : List ℕ) → length (faces_text ts) ≡ count_of ts * 13
unfolding faces_text
faces-length ts =
    each-length 13 (count_of ts) (λ k. face_text (get_or ts (k * 3) 0) (get_or ts (k * 3 + 1) 0) (get_or ts (k * 3 + 2) 0)) (λ k. face-length (get_or ts (k * 3) 0) (get_or ts (k * 3 + 1) 0) (get_or ts (k * 3 + 2) 0))

pub file_length_lem : (ws ts : List ℕ) → length ws % 3 ≡ 0 → length (ply_text ws ts) ≡ length (head_text (count_of ws) (count_of ts)) + (count_of ws * 24 + count_of ts * 13)
unfolding ply_text
file_length_lem ws ts h =
    rw (length-append, length-append, words-length, faces-length) (omega arith)

-- ---- the writers' ways out

pub begin-done : (n : ℕ) (ts l l' : List ℕ) (k a : ℕ) → Fits n ts → k ≡ size_of (n / 3) (count_of ts) → k ≤ length l → Written l 0 (head_text (n / 3) (count_of ts)) l' a → BeginOf n ts l l' (Ok a)
begin-done n ts l l' k a fit e h p = begun a (record { fit = fit; room = omega arith; head = p }) refl

-- what has begun
pub started : (n : ℕ) (ts l l' : List ℕ) (a : ℕ) → BeginOf n ts l l' (Ok a) → Started n ts l l' a
started n ts l l' a (begun b p e) = let q : b ≡ a = cc in rw (← q) p
started n ts l l' a (misfit k x e) = absurd (cc)
started n ts l l' a (short k h x e) = absurd (cc)

pub file-size : (ws ts : List ℕ) → Fit ws ts → length (ply_text ws ts) ≡ size_of (count_of ws) (count_of ts)
file-size ws ts fit = file_length_lem ws ts fit.whole_words

-- n is how many coordinates ws has
module _ (n : ℕ) (ws ts l l' : List ℕ) (m : length ws ≡ n) where
  -- what was refused
  pub not-begun : (e : Refusal) → BeginOf n ts l l' (Err e) → WriteOf ws ts l l' (Err e)
  not-begun e (begun a p y) = absurd (cc)
  not-begun e (misfit k x y) = unfit (rw m k) x y
  not-begun e (short k h x y) = let f : Fit ws ts = rw m k in no_room f (rw (file-size ws ts f, m) h) x y

  module _ (a : ℕ) (p : Started n ts l l' a) where
    pub words-room : a + n * 8 ≤ length l'
    words-room = omega (arith, p.room, p.head.next, written-length p.head, p.fit.whole_words)

    module _ (l'' : List ℕ) (b : ℕ) (q : Written l' a (words_text ws) l'' b) where
      pub faces-room : b + count_of ts * 13 ≤ length l''
      faces-room = omega (arith, p.room, p.head.next, written-length p.head, q.next, written-length q, words-length ws, p.fit.whole_words, m)

      pub write_done : All (λ w. w < 2 ^ 64) ws → (l''' : List ℕ) (c : ℕ) → Written l'' b (faces_text ts) l''' c → WriteOf ws ts l l''' (Ok c)
      unfolding ply_text
      write_done w l''' c r =
          let f : Fit ws ts = rw m p.fit in
          let h : Written l 0 (head_text (count_of ws) (count_of ts)) l' a = rw m p.head in
          let all : Written l 0 (ply_text ws ts) l''' c = written-more h (written-more q r) in
          let e : c ≡ length (ply_text ws ts) = omega (arith, all.next) in
          let o : size_of (count_of ws) (count_of ts) ≤ length l = rw m p.room in
          done (record { fit = f; words = w; is = refl }) (rw (file-size ws ts f) o) all.buf (rw e)

-- ---- how long a file is

pub length-is : (v f : ℕ) → v < 1000000000 → f < 1000000000 → file_length v f ≡ size_of v f
unfolding file_length
length-is v f a b = rw (lt-ltb v 1000000000 a, lt-ltb f 1000000000 b)

pub length-none_v : (v f : ℕ) → 1000000000 ≤ v → file_length v f ≡ 0
unfolding file_length
length-none_v v f a = rw (le-ltb v 1000000000 a)

pub length-none_f : (v f : ℕ) → v < 1000000000 → 1000000000 ≤ f → file_length v f ≡ 0
unfolding file_length
length-none_f v f b a = rw (lt-ltb v 1000000000 b, le-ltb f 1000000000 a)

-- that of a file
pub length-file : (s ws ts : List ℕ) → PlyFile s ws ts → length s ≡ file_length (count_of ws) (count_of ts)
length-file s ws ts p = ap length p.is ∙ file-size ws ts p.fit ∙ sym (length-is (count_of ws) (count_of ts) p.fit.vertices p.fit.faces)

-- how long it is where there are at most a vertices and b faces
pub size-most : (v f a b : ℕ) → v ≤ a → f ≤ b → a < 1000000000 → b < 1000000000 → size_of v f ≤ 188 + (a * 24 + b * 13)
size-most v f a b p q h g = omega (arith, head_length v f, dec-short v (omega arith), dec-short f (omega arith))

-- no file is longer than 37,000,000,151 bytes, so every length fits a usize
pub file_longest : (s ws ts : List ℕ) → PlyFile s ws ts → length s ≤ 37000000151
file_longest s ws ts p =
    let v = count_of ws in
    let f = count_of ts in
    let h = p.fit.vertices in
    let g = p.fit.faces in
    omega (arith, ap length p.is ∙ file-size ws ts p.fit, size-most v f 999999999 999999999 (omega arith) (omega arith) (omega arith) (omega arith))
