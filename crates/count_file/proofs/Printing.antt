-- Laws of the printed answer: how long it can be, and that its bytes say the counts. Assumes nothing.
use mathlib.Core.Path.{◌≡◌, refl, sym, ap}
use mathlib.Core.List.{List, [], ◌++◌}
use Prim.Native.Nat.{ℕ, ◌≤◌}
use native.Mathlib.Omega.{arith}
use lib.ListN.{length, length-append}
use Rattle.laws.specs.Lists.{total}
use Rattle.laws.proofs.Lists.{append-apart}
use Rattle.lines.specs.Lines.{line_of, lines, Fine}
use Rattle.lines.specs.Status.{status}
use Rattle.lines.proofs.Lines.{key_of, lines-room, lines_same}
use Rattle.lines.proofs.Printing.{refusal-length}
use Rattle.count_file.specs.Answer.{count_form, answer_text}

-- a whole answer never takes more than 351 bytes
pub answer-length : (vs : List ℕ) → length vs ≡ 11 → length (answer_text vs) ≤ 351
unfolding answer_text lines total key_of
answer-length vs h =
    let c : length (lines count_form vs) ≤ 323 = lines-room count_form vs (sym h) in
    rw length-append (omega (arith, refusal-length 0))

-- two answers with equal bytes have equal counts
pub answer_back : (vs ws : List ℕ) → Fine count_form vs → Fine count_form ws → answer_text vs ≡ answer_text ws → vs ≡ ws
unfolding answer_text lines
answer_back vs ws a b e =
    let t = append-apart (line_of status 0) (line_of status 0) (lines count_form vs) (lines count_form ws) refl e in
    (lines_same [] [] a b (ap (λ l. l ++ []) t.1)).first
