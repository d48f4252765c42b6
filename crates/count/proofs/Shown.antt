-- What the count program prints of what was built, and that it fits: twelve lines, or a refusal with 1, 2, 4, 8 or 14. Assumes nothing.
use mathlib.Core.Path.{◌≡◌, refl, sym, ap, ◌∙◌, ap₂, subst}
use mathlib.Core.Bool.{Bool, true, false, not, cond}
use mathlib.Core.List.{List, ◌∷◌}
use Prim.Native.Nat.{ℕ, ◌≤◌}
use native.Mathlib.Omega.{arith}
use lib.ListN.{length, get_or}
use Rattle.laws.specs.Written.{Written}
use Rattle.laws.proofs.Written.{written-length, within}
use Rattle.lattice.specs.Sites as box
use Rattle.points.specs.Limits.{frame_ok}
use Rattle.refusals.specs.Refusals.{settings_ok, inside_ok}
use Rattle.build.specs.declared.Answer.{Answer}
use Rattle.build.specs.Answer.{refused_answer, answer_of, counts_of, Lists, lengths_of}
use Rattle.build.proofs.Fronts.{answer-status}
use Rattle.std.specs.Prelude.{Option}
use Rattle.std.specs.Option.{option_map_or}
use Rattle.count_file.specs.declared.Parsed.{Parsed}
use Rattle.lines.specs.Status.{refusal_text}
use Rattle.count_file.specs.Answer.{answer_text}
use Rattle.lines.proofs.Printing.{refusal-length}
use Rattle.count_file.proofs.Printing.{answer-length}
use Rattle.file_build.specs.declared.Built.{Built}
use Rattle.file_build.specs.Asked.{head_sides, head_frame, head_inside, floats_of, file_order, work_space, work_order, BuiltOf, built, unbuilt}
use Rattle.file_build.proofs.Status.{file-status}
use Rattle.count.specs.Count.{printed, file_answer, Counted, file, none, Answered}

-- ---- what is printed of what was built

pub built-counted : {s : List ℕ} {l l' : Lists} {r : Built} → lengths_of l ≡ work_space → BuiltOf s l l' r → Counted s (printed (option_map_or (λ p. p.sites) r.file 0) r.answer)
unfolding file_answer printed refused_answer
built-counted {s} {l} {r = r} w (built hd ss f e b) =
    let n : option_map_or (λ p. p.sites) r.file 0 ≡ length ss = ap (λ (o : Option Parsed). option_map_or (λ p. p.sites) o 0) e in
    let a : r.answer ≡ answer_of (file_order hd (floats_of ss) work_space) = b.answer ∙ ap (λ (L : _). answer_of (file_order hd (floats_of ss) L)) w in
    subst (λ (t : List ℕ). Counted s t) (sym (ap₂ printed n a)) (file f)
built-counted {s} {r = r} w (unbuilt z d a k) = subst (λ (t : List ℕ). Counted s t) (sym (ap (printed (option_map_or (λ p. p.sites) r.file 0)) a)) (none z)

-- ---- its length

-- twelve lines, or one of five refusals
pub data Shown : List ℕ → Type 0 where
  done : (counts : List ℕ) → length counts ≡ 11 → Shown (answer_text counts)
  settings : Shown (refusal_text 1)
  sides : Shown (refusal_text 2)
  frame : Shown (refusal_text 4)
  threshold : Shown (refusal_text 14)
  form : Shown (refusal_text 8)

shown : (k : ℕ) (a : Answer) (x y z h : Bool) → a.status ≡ cond (not x) 1 (cond (not y) 2 (cond (not z) 4 (cond (not h) 14 0))) → Shown (printed k a)
unfolding printed counts_of
shown k a false y z h e = rw e settings
shown k a true false z h e = rw e sides
shown k a true true false h e = rw e frame
shown k a true true true false e = rw e threshold
shown k a true true true true e = rw e (done (k ∷ counts_of a) refl)

pub counted-shown : {s t : List ℕ} → Counted s t → Shown t
unfolding file_answer
counted-shown (file {h = hd} {ss = ss} f) =
    shown (length ss) _ (settings_ok (get_or hd.sizes 3 0) (get_or hd.sizes 4 0)) (box.sides_ok (head_sides hd)) (frame_ok (head_frame hd)) (inside_ok (head_inside hd)) (answer-status (work_order hd (floats_of ss)) ∙ file-status f)
counted-shown (none z) = form

-- it never takes more than 351 bytes
pub shown-length : {t : List ℕ} → Shown t → length t ≤ 351
shown-length (done counts h) = answer-length counts h
shown-length settings = omega (arith, refusal-length 1)
shown-length sides = omega (arith, refusal-length 2)
shown-length frame = omega (arith, refusal-length 4)
shown-length threshold = omega (arith, refusal-length 14)
shown-length form = omega (arith, refusal-length 8)

pub answered-at : {s t l l' : List ℕ} {r : ℕ} → length l ≡ 351 → Counted s t → Written l 0 t l' r → Answered s l l' r
answered-at {t = t} {l' = l'} {r = r} h a p =
    record { text = t; counted = a; put = p; within = within r l' (omega (arith, p.next, written-length p, shown-length (counted-shown a))) }
