-- What the count program prints (docs/SCOPE.md, S10). Assumes nothing.
use Rattle.std.specs.Prelude.{cond, List, ◌∷◌, ℕ, eqb, length}
use Rattle.laws.specs.Written.{Written, Within}
use Rattle.build.specs.declared.Answer.{Answer}
use Rattle.build.specs.Answer.{answer_of, counts_of}
use Rattle.count_file.specs.declared.Head.{Head}
use Rattle.count_file.specs.CountFile.{CountFile}
use Rattle.lines.specs.Status.{refusal_text}
use Rattle.count_file.specs.Answer.{answer_text}
use Rattle.file_build.specs.Asked.{floats_of, work_order}

-- twelve lines, with k sites, or a refusal's one
unfoldable pub printed : ℕ → Answer → List ℕ
printed k a = cond (eqb a.status 0) (answer_text (k ∷ counts_of a)) (refusal_text a.status)

-- for the file of the header h and the samples ss, one a site
unfoldable pub file_answer : Head → List ℕ → List ℕ
file_answer h ss = printed (length ss) (answer_of (work_order h (floats_of ss)))

-- t is printed for the input s: what its values give where s is a count file, and `status=8` where it is none
pub data Counted : List ℕ → List ℕ → Type 0 where
  file : {s : List ℕ} {h : Head} {ss : List ℕ} → CountFile s h ss → Counted s (file_answer h ss)
  none : {s : List ℕ} → ((h : Head) (ss : List ℕ) → CountFile s h ss → ⊥) → Counted s (refusal_text 8)

-- that stands at the front of l', which was l, takes r bytes, and fits
pub record Answered (s l l' : List ℕ) (r : ℕ) : Type 0 where
  pub text : List ℕ
  pub counted : Counted s text
  pub put : Written l 0 text l' r
  pub within : Within r l'
