-- What is printed for a file that is read and written again, where there is room for b bytes: the file itself, or the line of the refusal. Assumes nothing.
use Rattle.std.specs.Prelude.{List, ℕ, ◌≤◌, ◌<◌, length}
use Rattle.laws.specs.Written.{Written, Within}
use Rattle.lines.specs.Status.{refusal_text}
use Rattle.ply_write.specs.Form.{OfKind, Headed}

pub data AgainText (b : ℕ) (s : List ℕ) : List ℕ → Type 0 where
  same : OfKind s → length s ≤ b → AgainText b s s
  no_header : (Headed s → ⊥) → AgainText b s (refusal_text 9)
  no_body : Headed s → (OfKind s → ⊥) → length s ≤ b → AgainText b s (refusal_text 10)
  too_long : Headed s → b < length s → AgainText b s (refusal_text 11)

-- that stands at the front of l', which was l, takes r bytes, and fits
pub record AgainOf (b : ℕ) (s l l' : List ℕ) (r : ℕ) : Type 0 where
  pub text : List ℕ
  pub is : AgainText b s text
  pub put : Written l 0 text l' r
  pub within : Within r l'
