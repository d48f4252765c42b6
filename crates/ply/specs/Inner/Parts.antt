-- The parts of a PLY file, as the private functions answer them on the way. Assumes nothing.
use Rattle.std.specs.Prelude.{◌≡◌, List, [], ◌∷◌, ◌++◌, ℕ, ◌+◌, ◌*◌, ◌≤◌, ◌<◌, length, drop, get_or, Option, Some, None, Result, Ok, Err}
use Rattle.laws.specs.Ranges.{each}
use Rattle.lines.specs.Lines.{Small}
use Rattle.little_endian.specs.Bytes.{number_at}
use Rattle.ply.specs.declared.Head.{Head}
use Rattle.ply.specs.declared.Found.{Found}
use Rattle.ply.specs.declared.Refusal.{Refusal}
use Rattle.ply_write.specs.Form.{head_text, Headed, PlyFile}
use Rattle.ply.specs.Answers.{Unread, Unstored}

-- s begins with the header of v vertices and f faces, and `next` is past it
pub record HeaderAt (s : List ℕ) (v f next : ℕ) : Type 0 where
  pub small_v : Small v
  pub small_f : Small f
  pub here : s ≡ head_text v f ++ drop next s
  pub past : next ≡ length (head_text v f)

abbrev pub HeadOf : List ℕ → Option Head → Type 0
HeadOf s None = Headed s → ⊥
HeadOf s (Some h) = HeaderAt s h.vertices h.faces h.next

-- the words and the indices that stand from a place on
unfoldable pub words_in : List ℕ → ℕ → ℕ → List ℕ
words_in s at n = each n (λ k. number_at 8 s (at + k * 8) ∷ [])

unfoldable pub face_at : List ℕ → ℕ → List ℕ
face_at s p = number_at 4 s (p + 1) ∷ number_at 4 s (p + 5) ∷ number_at 4 s (p + 9) ∷ []

unfoldable pub faces_in : List ℕ → ℕ → ℕ → List ℕ
faces_in s at n = each n (λ k. face_at s (at + k * 13))

-- at p stands a face with three indices below v, and from `at` on stand n of them
pub record FaceFit (s : List ℕ) (p v : ℕ) : Type 0 where
  pub threes : get_or s p 0 ≡ 3
  pub first : number_at 4 s (p + 1) < v
  pub second : number_at 4 s (p + 5) < v
  pub third : number_at 4 s (p + 9) < v

abbrev pub FacesFit : List ℕ → ℕ → ℕ → ℕ → Type 0
FacesFit s at n v = (k : ℕ) → k < n → FaceFit s (at + k * 13) v

-- what follows the header of v vertices and f faces is neither too short nor too long, and its faces fit
pub record Body (s : List ℕ) (v f next : ℕ) : Type 0 where
  pub full : length s ≡ next + (v * 24 + f * 13)
  pub faces : FacesFit s (next + v * 24) f v

-- a file of v vertices and f faces whose body starts at `next`
pub record Whole (s : List ℕ) (v f next : ℕ) : Type 0 where
  pub file : PlyFile s (words_in s next (v * 3)) (faces_in s (next + v * 24) f)
  pub full : length s ≡ next + (v * 24 + f * 13)
  pub small_v : Small v
  pub small_f : Small f

-- what is found in a file before anything is stored
abbrev pub LookOf : List ℕ → Result Found Refusal → Type 0
LookOf s (Err e) = Unread s e
LookOf s (Ok x) = Whole s x.counts.vertices x.counts.faces x.next

-- and what is found where there are a places for words and b for indices
pub record Placed (s : List ℕ) (a b v f next : ℕ) : Type 0 where
  pub whole : Whole s v f next
  pub words : v * 3 ≤ a
  pub triangles : f * 3 ≤ b

abbrev pub FindOf : List ℕ → ℕ → ℕ → Result Found Refusal → Type 0
FindOf s a b (Err e) = Unstored s a b e
FindOf s a b (Ok x) = Placed s a b x.counts.vertices x.counts.faces x.next
