-- Laws of reading the body: face by face and word by word; what stands there is the print of what is read, and what was printed is read. Assumes nothing.
use mathlib.Core.Path.{◌≡◌, refl, sym, ap, ap₂, ◌∙◌, subst}
use mathlib.Core.Logic.{⊎_elim}
use mathlib.Core.List.{List, [], ◌∷◌, ◌++◌, append_assoc, append-nil}
use Prim.Native.Nat.{ℕ, suc, ◌+◌, ◌-◌, ◌*◌, ◌/◌, ◌%◌, ◌^◌, ◌≤◌, ◌<◌}
use native.Mathlib.Omega.{arith}
use lib.ListN.{length, get_or, set, take, drop, length-append, length-drop, take-append-drop}
use lib.Seq.{take-add, drop-drop, drop-cons, take_all, get_or-take, get_or-drop, ext_get_or}
use Rattle.laws.specs.Lists.{All}
use Rattle.laws.specs.Ranges.{each}
use Rattle.laws.specs.Written.{Written}
use Rattle.laws.proofs.Lists.{all_member, all-index}
use Rattle.laws.proofs.Blocks.{each-length, block_at, blocks, part_of, block_entry, three}
use Rattle.laws.proofs.Ranges.{lt-or, each_same, each_all, each-one-length, each-one-at}
use Rattle.lines.specs.Lines.{Small}
use Rattle.little_endian.specs.Bytes.{bytes_of, number_at, Bytes}
use Rattle.little_endian.proofs.Bytes.{bytes_length, bytes_there, number-there, number-less}
use Rattle.ply_write.specs.Form.{head_text, words_text, face_text, faces_text, ply_text, count_of, Fit, PlyFile, OfKind}
use Rattle.ply.specs.Inner.Parts.{HeaderAt, words_in, face_at, faces_in, FaceFit, FacesFit, Whole}
use Rattle.ply.proofs.Heads.{Three, head_same, head_within}
use Rattle.ply_write.proofs.Writing.{face-length, words-length, faces-length}

-- ---- turns of the loops

pub faces-more : (s : List ℕ) (at k v : ℕ) → FacesFit s at k v → FaceFit s (at + k * 13) v → FacesFit s at (k + 1) v
faces-more s at k v p q j h =
    ⊎_elim (λ l. p j l) (λ l. let e : k ≡ j = omega arith in subst (λ (i : ℕ). FaceFit s (at + i * 13) v) e q) (lt-or j k)

pub get_face : (l s : List ℕ) (at p a b c : ℕ) → a ≡ number_at 4 s (p + 1) → b ≡ number_at 4 s (p + 5) → c ≡ number_at 4 s (p + 9)
    → Written l at (face_at s p) (set (set (set l at a) (at + 1) b) (at + 2) c) (at + 3)
unfolding face_at
get_face l s at p a b c x y z =
    let i : at + 1 ≡ suc at = omega arith in
    let j : at + 2 ≡ suc (suc at) = omega arith in
    record { buf = rw (i, j, x, y, z); next = refl }

pub face-three : (s : List ℕ) (p : ℕ) → length (face_at s p) ≡ 3
unfolding face_at
face-three s p = refl

-- ---- what was printed is read

-- a face that stands at p
module _ (s : List ℕ) (p a b c : ℕ) (e : take 13 (drop p s) ≡ face_text a b c) where
  part : (i : ℕ) → i + 4 ≤ 13 → take 4 (drop (p + i) s) ≡ take 4 (drop i (face_text a b c))
  part i h = ap (take 4) (sym (drop-drop i p s)) ∙ sym (part_of i 4 13 (drop p s) h) ∙ ap (λ (x : List ℕ). take 4 (drop i x)) e

  first_byte : get_or s p 0 ≡ 3
  unfolding face_text
  first_byte =
      let q : p + 0 ≡ p = omega arith in
      ap (λ (i : ℕ). get_or s i 0) (sym q) ∙ sym (get_or-drop p s 0 0) ∙ sym (get_or-take 13 (drop p s) 0 0 (omega arith)) ∙ ap (λ (x : List ℕ). get_or x 0 0) e

  module _ (v : ℕ) (small : Small v) (x : a < v) (y : b < v) (z : c < v) where
    first-is : number_at 4 s (p + 1) ≡ a
    unfolding face_text bytes_of
    first-is = number-there 4 s (p + 1) a (omega arith) (part 1 (omega arith))

    second_is : number_at 4 s (p + 5) ≡ b
    unfolding face_text bytes_of
    second_is = number-there 4 s (p + 5) b (omega arith) (part 5 (omega arith))

    third-is : number_at 4 s (p + 9) ≡ c
    unfolding face_text bytes_of
    third-is = number-there 4 s (p + 9) c (omega arith) (part 9 (omega arith))

    face-fit : FaceFit s p v
    face-fit = record { threes = first_byte; first = rw first-is x; second = rw second_is y; third = rw third-is z }

    face-is : face_at s p ≡ a ∷ b ∷ c ∷ []
    unfolding face_at
    face-is = rw (first-is, second_is, third-is)

-- a list entry by entry, and three by three
each_entries : (l : List ℕ) → each (length l) (λ k. get_or l k 0 ∷ []) ≡ l
each_entries l = ext_get_or 0 (each (length l) (λ k. get_or l k 0 ∷ [])) l (each-one-length (length l) (λ k. get_or l k 0)) (λ i h. each-one-at 0 (length l) (λ k. get_or l k 0) i (rw (each-one-length (length l) (λ k. get_or l k 0)) at h))

each_threes : (l : List ℕ) → length l % 3 ≡ 0 → each (count_of l) (λ k. get_or l (k * 3) 0 ∷ get_or l (k * 3 + 1) 0 ∷ get_or l (k * 3 + 2) 0 ∷ []) ≡ l
each_threes l h =
    each_same (count_of l) (λ k. get_or l (k * 3) 0 ∷ get_or l (k * 3 + 1) 0 ∷ get_or l (k * 3 + 2) 0 ∷ []) (λ k. take 3 (drop (0 + k * 3) l))
    (λ k g. let q : 0 + k * 3 ≡ k * 3 = omega arith in rw q (sym (three 0 l (k * 3) (omega arith))))
    ∙ blocks 3 (count_of l) 0 l ∙ take_all (count_of l * 3) l (omega arith)

-- a file whose header has been read
module _ (s : List ℕ) (v f at : ℕ) (h : HeaderAt s v f at) (ws ts : List ℕ) (p : PlyFile s ws ts) where
  same : Three v f (count_of ws) (count_of ts) (drop at s) (words_text ws ++ faces_text ts)
  unfolding ply_text
  same = head_same v f (count_of ws) (count_of ts) (drop at s) (words_text ws ++ faces_text ts) h.small_v h.small_f p.fit.vertices p.fit.faces (sym h.here ∙ p.is)

  parts : s ≡ head_text v f ++ (words_text ws ++ faces_text ts)
  parts = h.here ∙ ap (λ (r : List ℕ). head_text v f ++ r) same.rest

  words_count : length ws ≡ v * 3
  words_count = omega (arith, same.vertices, p.fit.whole_words)

  words-end : length (head_text v f ++ words_text ws) ≡ at + v * 24
  words-end = length-append (head_text v f) (words_text ws) ∙ omega (arith, h.past, words-length ws, words_count)

  pub file_full : length s ≡ at + (v * 24 + f * 13)
  file_full =
      ap length parts ∙ length-append (head_text v f) (words_text ws ++ faces_text ts)
      ∙ omega (arith, length-append (words_text ws) (faces_text ts), words-length ws, faces-length ts, words_count, same.faces, h.past)

  word-there : (k : ℕ) → k < length ws → number_at 8 s (at + k * 8) ≡ get_or ws k 0
  unfolding words_text
  word-there k l =
      number-there 8 s (at + k * 8) (get_or ws k 0) (all_member 0 (λ w. w < 2 ^ 64) ws p.words k l)
      (block_at 8 (length ws) (λ i. bytes_of 8 (get_or ws i 0)) (λ i. bytes_length 8 (get_or ws i 0)) s (head_text v f) (faces_text ts) at k parts (sym h.past) l)

  pub words_are : words_in s at (v * 3) ≡ ws
  unfolding words_in
  words_are =
      ap (λ (n : ℕ). each n (λ k. number_at 8 s (at + k * 8) ∷ [])) (sym words_count)
      ∙ each_same (length ws) (λ k. number_at 8 s (at + k * 8) ∷ []) (λ k. get_or ws k 0 ∷ []) (λ k l. ap (λ (n : ℕ). n ∷ []) (word-there k l))
      ∙ each_entries ws

  face-there : (k : ℕ) → k < count_of ts → take 13 (drop (at + v * 24 + k * 13) s) ≡ face_text (get_or ts (k * 3) 0) (get_or ts (k * 3 + 1) 0) (get_or ts (k * 3 + 2) 0)
  unfolding faces_text
  face-there k l =
      block_at 13 (count_of ts) (λ i. face_text (get_or ts (i * 3) 0) (get_or ts (i * 3 + 1) 0) (get_or ts (i * 3 + 2) 0)) (λ i. face-length (get_or ts (i * 3) 0) (get_or ts (i * 3 + 1) 0) (get_or ts (i * 3 + 2) 0))
      s (head_text v f ++ words_text ws) [] (at + v * 24) k
      (parts ∙ sym (append_assoc (head_text v f) (words_text ws) (faces_text ts)) ∙ ap (λ (r : List ℕ). (head_text v f ++ words_text ws) ++ r) (sym (append-nil (faces_text ts))))
      words-end l

  index-low : (i : ℕ) → i < length ts → get_or ts i 0 < v
  index-low i l = rw same.vertices (all_member 0 (λ x. x < count_of ws) ts p.fit.below i l)

  pub file-faces : FacesFit s (at + v * 24) f v
  file-faces k l =
      let l' : k < count_of ts = omega (arith, same.faces) in
      face-fit s (at + v * 24 + k * 13) (get_or ts (k * 3) 0) (get_or ts (k * 3 + 1) 0) (get_or ts (k * 3 + 2) 0) (face-there k l') v h.small_v
      (index-low (k * 3) (omega arith)) (index-low (k * 3 + 1) (omega arith)) (index-low (k * 3 + 2) (omega arith))

  pub faces_are : faces_in s (at + v * 24) f ≡ ts
  unfolding faces_in
  faces_are =
      ap (λ (n : ℕ). each n (λ k. face_at s (at + v * 24 + k * 13))) same.faces
      ∙ each_same (count_of ts) (λ k. face_at s (at + v * 24 + k * 13)) (λ k. get_or ts (k * 3) 0 ∷ get_or ts (k * 3 + 1) 0 ∷ get_or ts (k * 3 + 2) 0 ∷ [])
      (λ k l.
      face-is s (at + v * 24 + k * 13) (get_or ts (k * 3) 0) (get_or ts (k * 3 + 1) 0) (get_or ts (k * 3 + 2) 0) (face-there k l) v h.small_v
      (index-low (k * 3) (omega arith)) (index-low (k * 3 + 1) (omega arith)) (index-low (k * 3 + 2) (omega arith)))
      ∙ each_threes ts p.fit.whole_triangles

-- ---- what is read is printed the same

one_of : (s : List ℕ) (at k : ℕ) (l : List ℕ) → get_or l (k * 3 + 0) 0 ≡ get_or (face_at s (at + k * 13)) 0 0 → get_or l (k * 3 + 1) 0 ≡ get_or (face_at s (at + k * 13)) 1 0 → get_or l (k * 3 + 2) 0 ≡ get_or (face_at s (at + k * 13)) 2 0
    → face_text (get_or l (k * 3) 0) (get_or l (k * 3 + 1) 0) (get_or l (k * 3 + 2) 0) ≡ face_text (number_at 4 s (at + k * 13 + 1)) (number_at 4 s (at + k * 13 + 5)) (number_at 4 s (at + k * 13 + 9))
unfolding face_at
one_of s at k l a b c =
    let z : k * 3 + 0 ≡ k * 3 = omega arith in
    let a' : get_or l (k * 3) 0 ≡ number_at 4 s (at + k * 13 + 1) = rw z at a in
    rw (a', b, c)

module _ (s : List ℕ) (all : Bytes s) where
  words-print : (at n : ℕ) → at + n * 8 ≤ length s → words_text (words_in s at n) ≡ take (n * 8) (drop at s)
  unfolding words_text words_in
  words-print at n h =
      let g : ℕ → ℕ = λ k. number_at 8 s (at + k * 8) in
      let l : List ℕ = each n (λ k. g k ∷ []) in
      ap (λ (m : ℕ). each m (λ k. bytes_of 8 (get_or l k 0))) (each-one-length n g)
      ∙ each_same n (λ k. bytes_of 8 (get_or l k 0)) (λ k. take 8 (drop (at + k * 8) s)) (λ k i. ap (bytes_of 8) (each-one-at 0 n g k i) ∙ bytes_there 8 s (at + k * 8) all (omega arith))
      ∙ blocks 8 n at s

  face-print : (p : ℕ) → p + 13 ≤ length s → get_or s p 0 ≡ 3 → face_text (number_at 4 s (p + 1)) (number_at 4 s (p + 5)) (number_at 4 s (p + 9)) ≡ take 13 (drop p s)
  unfolding face_text
  face-print p h e =
      let e5 : p + 1 + 4 ≡ p + 5 = omega arith in
      let e9 : p + 5 + 4 ≡ p + 9 = omega arith in
      let a : take 1 (drop p s) ≡ 3 ∷ [] = rw (drop-cons s p 0 (omega arith), e) in
      let b : take 12 (drop (p + 1) s) ≡ take 4 (drop (p + 1) s) ++ take 8 (drop (p + 5) s) = take-add 4 8 (drop (p + 1) s) ∙ rw (drop-drop 4 (p + 1) s, e5) in
      let c : take 8 (drop (p + 5) s) ≡ take 4 (drop (p + 5) s) ++ take 4 (drop (p + 9) s) = take-add 4 4 (drop (p + 5) s) ∙ rw (drop-drop 4 (p + 5) s, e9) in
      let d : take 13 (drop p s) ≡ 3 ∷ (take 4 (drop (p + 1) s) ++ (take 4 (drop (p + 5) s) ++ take 4 (drop (p + 9) s))) = take-add 1 12 (drop p s) ∙ rw (drop-drop 1 p s, a, b, c) in
      rw (bytes_there 4 s (p + 1) all (omega arith), bytes_there 4 s (p + 5) all (omega arith), bytes_there 4 s (p + 9) all (omega arith)) (sym d)

  faces-print : (at n v : ℕ) → at + n * 13 ≤ length s → FacesFit s at n v → faces_text (faces_in s at n) ≡ take (n * 13) (drop at s)
  unfolding faces_text faces_in
  faces-print at n v h fit =
      let g : ℕ → List ℕ = λ k. face_at s (at + k * 13) in
      let l : List ℕ = each n g in
      let m : length l ≡ n * 3 = each-length 3 n g (λ k. face-three s (at + k * 13)) in
      let c : length l / 3 ≡ n = omega arith in
      ap (λ (i : ℕ). each i (λ k. face_text (get_or l (k * 3) 0) (get_or l (k * 3 + 1) 0) (get_or l (k * 3 + 2) 0))) c
      ∙ each_same n (λ k. face_text (get_or l (k * 3) 0) (get_or l (k * 3 + 1) 0) (get_or l (k * 3 + 2) 0)) (λ k. take 13 (drop (at + k * 13) s)) (λ k i. one k i)
      ∙ blocks 13 n at s
    where
      entry : (k j : ℕ) → k < n → j < 3 → get_or (each n (λ k. face_at s (at + k * 13))) (k * 3 + j) 0 ≡ get_or (face_at s (at + k * 13)) j 0
      entry k j i o = block_entry 0 3 n (λ k. face_at s (at + k * 13)) (λ k. face-three s (at + k * 13)) k j i o

      one : (k : ℕ) → k < n
          → face_text (get_or (each n (λ k. face_at s (at + k * 13))) (k * 3) 0) (get_or (each n (λ k. face_at s (at + k * 13))) (k * 3 + 1) 0) (get_or (each n (λ k. face_at s (at + k * 13))) (k * 3 + 2) 0)
          ≡ take 13 (drop (at + k * 13) s)
      one k i = one_of s at k (each n (λ k. face_at s (at + k * 13))) (entry k 0 i (omega arith)) (entry k 1 i (omega arith)) (entry k 2 i (omega arith)) ∙ face-print (at + k * 13) (omega arith) (fit k i).threes

pub words_in-length : (s : List ℕ) (at n : ℕ) → length (words_in s at n) ≡ n
unfolding words_in
words_in-length s at n = each-one-length n (λ k. number_at 8 s (at + k * 8))

pub faces_in-length : (s : List ℕ) (at n : ℕ) → length (faces_in s at n) ≡ n * 3
unfolding faces_in
faces_in-length s at n = each-length 3 n (λ k. face_at s (at + k * 13)) (λ k. face-three s (at + k * 13))

faces-low : (s : List ℕ) (at n v : ℕ) → FacesFit s at n v → All (λ x. x < v) (faces_in s at n)
unfolding faces_in face_at All
faces-low s at n v fit = each_all (λ x. x < v) n (λ k. face_at s (at + k * 13)) (λ k l. ((fit k l).first, ((fit k l).second, ((fit k l).third, tt))))

words-fit : (s : List ℕ) → Bytes s → (at n : ℕ) → at + n * 8 ≤ length s → All (λ w. w < 2 ^ 64) (words_in s at n)
unfolding words_in All
words-fit s all at n h = each_all (λ w. w < 2 ^ 64) n (λ k. number_at 8 s (at + k * 8) ∷ []) (λ k l. (number-less 8 s (at + k * 8) all (omega arith), tt))

plain : {s : List ℕ} (ws ts : List ℕ) (v f : ℕ) → count_of ws ≡ v → count_of ts ≡ f → s ≡ head_text v f ++ (words_text ws ++ faces_text ts) → s ≡ ply_text ws ts
unfolding ply_text
plain ws ts v f a b e = rw (a, b) e

-- ---- a file and its header

module _ (s : List ℕ) (v f at : ℕ) (h : HeaderAt s v f at) where
  pub short_body : (length s - at ≡ v * 24 + f * 13 → ⊥) → OfKind s → ⊥
  short_body z k = z (omega (arith, file_full s v f at h k.words k.triangles k.file))

  pub bad-faces : (FacesFit s (at + v * 24) f v → ⊥) → OfKind s → ⊥
  bad-faces z k = z (file-faces s v f at h k.words k.triangles k.file)

  -- a body that is as long as it should be
  module _ (e : length s - at ≡ v * 24 + f * 13) where
    pub body_full : length s ≡ at + (v * 24 + f * 13)
    body_full = omega (arith, head_within s v f at h)

    pub words-within : at + v * 3 * 8 ≤ length s
    words-within = omega (arith, body_full)

    pub faces-within : at + v * 24 + f * 13 ≤ length s
    faces-within = omega (arith, body_full)

    pub file-found : ((k : ℕ) → get_or s k 0 < 256) → FacesFit s (at + v * 24) f v → Whole s v f at
    file-found b fit = record { file = record { fit = fits; words = words; is = printed }; full = body_full; small_v = h.small_v; small_f = h.small_f }
      where
        all : Bytes s
        all = all-index 0 (λ b. b < 256) s (λ k l. b k)

        ws : List ℕ
        ws = words_in s at (v * 3)

        ts : List ℕ
        ts = faces_in s (at + v * 24) f

        count-words : length ws ≡ v * 3
        count-words = words_in-length s at (v * 3)

        count-faces : length ts ≡ f * 3
        count-faces = faces_in-length s (at + v * 24) f

        vertices : count_of ws ≡ v
        vertices = omega (arith, count-words)

        faces : count_of ts ≡ f
        faces = omega (arith, count-faces)

        fits : Fit ws ts
        fits = record {
          whole_words = omega (arith, count-words);
          whole_triangles = omega (arith, count-faces);
          vertices = rw vertices h.small_v;
          faces = rw faces h.small_f;
          below = rw vertices (faces-low s (at + v * 24) f v fit);
        }

        words : All (λ w. w < 2 ^ 64) ws
        words = words-fit s all at (v * 3) words-within

        rest : drop (v * 24) (drop at s) ≡ faces_text ts
        rest =
            let l : length (drop (at + v * 24) s) ≤ f * 13 = rw length-drop (omega (arith, body_full)) in
            drop-drop (v * 24) at s ∙ sym (take_all (f * 13) (drop (at + v * 24) s) l) ∙ sym (faces-print s all (at + v * 24) f v faces-within fit)

        front : take (v * 24) (drop at s) ≡ words_text ws
        front =
            let q : v * 24 ≡ v * 3 * 8 = omega arith in
            ap (λ (n : ℕ). take n (drop at s)) q ∙ sym (words-print s all at (v * 3) words-within)

        printed : s ≡ ply_text ws ts
        printed = plain ws ts v f vertices faces (h.here ∙ ap (λ (r : List ℕ). head_text v f ++ r) (sym (take-append-drop (v * 24) (drop at s)) ∙ ap₂ (λ (x y : List ℕ). x ++ y) front rest))
