-- What a program puts out for a count file: a text of what its values ask for, or `status=8` where the input is no count file. Assumes nothing.
use Rattle.std.specs.Prelude.{List, ℕ}
use Rattle.laws.specs.Written.{Written, Within}
use Rattle.count_file.specs.declared.Head.{Head}
use Rattle.count_file.specs.CountFile.{CountFile}
use Rattle.lines.specs.Status.{refusal_text}
use Rattle.build.specs.Answer.{Order}
use Rattle.file_build.specs.Asked.{floats_of, work_order}

-- t is put out for the input s, T being the text of an order
pub data Told (T : Order → List ℕ) (s : List ℕ) : List ℕ → Type 0 where
  file : (h : Head) (ss : List ℕ) → CountFile s h ss → Told T s (T (work_order h (floats_of ss)))
  none : ((h : Head) (ss : List ℕ) → CountFile s h ss → ⊥) → Told T s (refusal_text 8)

-- that stands at the front of l', which was l, takes r bytes, and fits
pub record ToldAt (T : Order → List ℕ) (s l l' : List ℕ) (r : ℕ) : Type 0 where
  pub text : List ℕ
  pub told : Told T s text
  pub put : Written l 0 text l' r
  pub within : Within r l'
