-- A table of examples: small files and lists, each refusal, and each limit just in and just out. Assumes nothing.
use Rattle.std.specs.Prelude.{◌≡◌, List, [], ◌∷◌, ◌++◌, ℕ, length, take, drop, set, Result, Ok, Err}
use Rattle.std.proofs.lemmas.List.Edits.{sets}
use Rattle.ply_write.specs.declared.Refusal.{Refusal as WriteRefusal}
use Rattle.ply_write.specs.declared.Refusal.TheVariants.{Unfit, NoRoom as Short}
use Rattle.ply.specs.declared.Counts.{Counts}
use Rattle.ply.specs.declared.Refusal.{Refusal}
use Rattle.ply.specs.declared.Refusal.TheVariants.{NoHeader, NoBody, NoRoom}
use Rattle.ply_write.specs.Form.{ply_line, opening, middle, closing, ply_text, Fits}
use Rattle.ply_write.specs.Answers.{file_length, WriteOf}
use Rattle.ply.specs.Answers.{counted, SizesOf, ReadOf}

-- the file of one vertex and one face, 209 bytes: a header of 172, then 24 for the vertex, then the face
abbrev pub small_words : List ℕ
small_words = 0x3ff0000000000000 ∷ 0x8000000000000000 ∷ 0x7ff8dead00000001 ∷ []

abbrev pub small_face : List ℕ
small_face = 0 ∷ 0 ∷ 0 ∷ []

abbrev pub small : List ℕ
small = ply_text small_words small_face

-- a header with these digits for its two numbers
abbrev pub head_with : List ℕ → List ℕ → List ℕ
head_with v f = opening ++ (v ++ (10 ∷ middle ++ (f ++ (10 ∷ closing))))

-- what `sizes` answers for s, and `read` in lists of a words and b indices
abbrev pub Answers : List ℕ → Result Counts Refusal → Type 0
Answers s c = (r : Result Counts Refusal) → SizesOf s r → r ≡ c

abbrev pub ReadsIn : List ℕ → ℕ → ℕ → Result Counts Refusal → Type 0
ReadsIn s a b c = (l m l' m' : List ℕ) (r : Result Counts Refusal) → length l ≡ a → length m ≡ b → ReadOf s l m l' m' r → r ≡ c

-- what `write` answers for ws and ts in a list of n bytes
abbrev pub WritesIn : List ℕ → List ℕ → ℕ → Result ℕ WriteRefusal → Type 0
WritesIn ws ts n c = (l l' : List ℕ) (r : Result ℕ WriteRefusal) → length l ≡ n → WriteOf ws ts l l' r → r ≡ c

pub record Readers : Type 0 where
  pub whole : Answers small (Ok (counted 1 1))
  pub nothing : Answers (ply_text [] []) (Ok (counted 0 0))
  -- the header: CR before the first LF, a comment, another type of coordinate, another type of index, no last LF, none at all
  pub cr : Answers (112 ∷ 108 ∷ 121 ∷ 13 ∷ drop 3 small) (Err NoHeader)
  pub comment : Answers (ply_line ++ (99 ∷ 111 ∷ 109 ∷ 109 ∷ 101 ∷ 110 ∷ 116 ∷ 10 ∷ drop 4 small)) (Err NoHeader)
  pub float : Answers (take 62 small ++ (102 ∷ 108 ∷ 111 ∷ 97 ∷ 116 ∷ drop 68 small)) (Err NoHeader)
  pub uint : Answers (take 142 small ++ (117 ∷ drop 142 small)) (Err NoHeader)
  pub no_last_lf : Answers (take 171 small) (Err NoHeader)
  pub none : Answers [] (Err NoHeader)
  -- its numbers: a needless zero, no digit, ten digits; nine are a header
  pub needless_zero : Answers (head_with (48 ∷ 49 ∷ []) (49 ∷ []) ++ drop 172 small) (Err NoHeader)
  pub no_digit : Answers (head_with [] (49 ∷ []) ++ drop 172 small) (Err NoHeader)
  pub ten_digits : Answers (head_with (49 ∷ 48 ∷ 48 ∷ 48 ∷ 48 ∷ 48 ∷ 48 ∷ 48 ∷ 48 ∷ 48 ∷ []) (48 ∷ [])) (Err NoHeader)
  pub nine_digits : Answers (head_with (57 ∷ 57 ∷ 57 ∷ 57 ∷ 57 ∷ 57 ∷ 57 ∷ 57 ∷ 57 ∷ []) (48 ∷ [])) (Err NoBody)
  -- the body: one byte short, one too many, a face of two and of four, an index of V, of 2^31 and of 2^32 - 1
  pub one-short : Answers (take 208 small) (Err NoBody)
  pub one_more : Answers (small ++ (0 ∷ [])) (Err NoBody)
  pub two : Answers (set small 196 2) (Err NoBody)
  pub four : Answers (set small 196 4) (Err NoBody)
  pub index_v : Answers (set small 205 1) (Err NoBody)
  pub top_bit : Answers (set small 200 128) (Err NoBody)
  pub all_ones : Answers (sets small 197 (255 ∷ 255 ∷ 255 ∷ 255 ∷ [])) (Err NoBody)
  -- room exactly full, and one short
  pub full : ReadsIn small 3 3 (Ok (counted 1 1))
  pub few_words : ReadsIn small 2 3 (Err NoRoom)
  pub few_indices : ReadsIn small 3 2 (Err NoRoom)

pub record Writers : Type 0 where
  pub full : WritesIn small_words small_face 209 (Ok 209)
  pub few_bytes : WritesIn small_words small_face 208 (Err Short)
  pub nothing : WritesIn [] [] 172 (Ok 172)
  -- not in whole threes, an index of V
  pub two_words : WritesIn (0 ∷ 0 ∷ []) [] 999 (Err Unfit)
  pub four_indices : WritesIn small_words (0 ∷ 0 ∷ 0 ∷ 0 ∷ []) 999 (Err Unfit)
  pub index_v : WritesIn small_words (0 ∷ 0 ∷ 1 ∷ []) 999 (Err Unfit)
  pub no_vertex : WritesIn [] small_face 999 (Err Unfit)
  -- Unfit before NoRoom
  pub lowest : WritesIn small_words (0 ∷ 0 ∷ 1 ∷ []) 0 (Err Unfit)
  -- counts of nine digits and of ten
  pub most_vertices : Fits 2999999997 []
  pub more_vertices : Fits 3000000000 [] → ⊥
  pub longest : file_length 999999999 999999999 ≡ 37000000151
  pub none_longer : file_length 1000000000 0 ≡ 0
  pub nor_faces : file_length 0 1000000000 ≡ 0
