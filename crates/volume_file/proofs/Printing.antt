-- Laws of the volume's text: its lines put together, and how long they are. Assumes nothing.
use mathlib.Core.Path.{◌≡◌, ap, ◌∙◌, subst}
use mathlib.Core.Bool.{cond}
use mathlib.Core.Logic.{◌⊎◌, inl, inr}
use mathlib.Core.List.{List, [], ◌∷◌, ◌++◌}
use Prim.Native.Nat.{ℕ, ◌+◌, ◌*◌, ◌/◌, ◌%◌, ◌≤◌, ◌<◌}
use native.Mathlib.Omega.{arith}
use borrow.Author.Tests.{eq-eqb, ne_eqb}
use lib.Dec.{eqb}
use lib.IntN.{ℤ}
use lib.ListN.{length, length-append}
use mir.Syntax.{w64}
use mir.Val.{SFits}
use mir.ValLaws.{to_z-of_z}
use Rattle.laws.specs.Ints.{size_of}
use Rattle.laws.specs.Written.{Written}
use Rattle.laws.proofs.Ranges.{eq-or}
use Rattle.laws.proofs.Sizes.{rd}
use Rattle.laws.proofs.Written.{written-more}
use Rattle.lines.specs.Numbers.{dec}
use Rattle.lines.specs.Lines.{dec_line}
use Rattle.lines.specs.Status.{refusal_text}
use Rattle.lines.proofs.Lines.{dec_line-room}
use Rattle.lines.proofs.Printing.{refusal-length}
use Rattle.decimals.specs.Decimals.{sign_of, signed_dec, decimal}
use Rattle.decimals.proofs.Printing.{sign-room, signed-room, decimal-room}
use Rattle.volume.specs.Volume.{Volume}
use Rattle.volume_file.specs.Text.{triangles_key, six_key, volume_key, sixths_key, six_line, volume_line, volume_text, answer_text}

-- ---- how long the lines are

pub six-room : (z : ℤ) → length (six_line z) ≤ 26
unfolding six_line
six-room z = omega (arith, length-append (signed_dec z) (10 ∷ []), signed-room z)

pub volume_room : (d : ℕ) (z : ℤ) → d < 7 → length (volume_line d z) ≤ 48
unfolding volume_line
volume_room d z h =
    let t = decimal (3 * d) (size_of z / 6) in
    omega (arith, length-append (sign_of z) (t ++ (10 ∷ [])), length-append t (10 ∷ []), sign-room z, decimal-room (3 * d) (size_of z / 6))

-- room for a line, whichever number it has, and where it ends
pub line_fits : (at : ℕ) (key : List ℕ) (n m : ℕ) → at + (length key + 21) ≤ m → at + length (dec_line key n) ≤ m
line_fits at key n m h = omega (arith, dec_line-room key n)

pub line-ends : (l l' : List ℕ) (at : ℕ) (key : List ℕ) (n r : ℕ) → Written l at (dec_line key n) l' r → r ≤ at + (length key + 21)
line-ends l l' at key n r p = omega (arith, p.next, dec_line-room key n)

lines-room : (d t : ℕ) (z : ℤ) → d < 7 → length (volume_text d t z) ≤ 161
unfolding volume_text
lines-room d t z h =
    let a = dec_line triangles_key t in
    let b = dec_line sixths_key (size_of z % 6) in
    let x = length-append (refusal_text 0) (a ++ (six_line z ++ (volume_line d z ++ b))) in
    let y = length-append a (six_line z ++ (volume_line d z ++ b)) in
    let u = length-append (six_line z) (volume_line d z ++ b) in
    let v = length-append (volume_line d z) b in
    let la : length a ≤ 31 = dec_line-room triangles_key t in
    let lb : length b ≤ 28 = dec_line-room sixths_key (size_of z % 6) in
    omega (arith, x, y, u, v, la, lb, refusal-length 0, six-room z, volume_room d z h)

pub answer-room : (d t : ℕ) (v : Volume) → (v.status ≡ 0 → d < 7) → length (answer_text d t v) ≤ 161
unfolding answer_text
answer-room d t v h = go (eq-or v.status 0)
  where
    go : (v.status ≡ 0) ⊎ (v.status ≡ 0 → ⊥) → length (cond (eqb v.status 0) (volume_text d t v.six) (refusal_text v.status)) ≤ 161
    go (inl e) = rw (eq-eqb v.status 0 e) (lines-room d t v.six (h e))
    go (inr n) = rw (ne_eqb v.status 0 n) (omega (arith, refusal-length v.status))

-- ---- the lines put together; the machine reads the sum back from its bits

module _ (z : ℤ) (f : SFits w64 z) where
  back : rd z ≡ z
  back = to_z-of_z w64 z f

  pub six-put : {l l₁ l₂ l₃ l₄ : List ℕ} {at a b c r : ℕ} (n : ℕ) → Written l at six_key l₁ a → Written l₁ a (sign_of (rd z)) l₂ b → n ≡ size_of (rd z) → Written l₂ b (dec n) l₃ c
      → Written l₃ c (10 ∷ []) l₄ r → Written l at (six_line z) l₄ r
  unfolding six_line signed_dec
  six-put {l₂ = l₂} {l₃} {b = b} {c} n p q e s t = written-more p (written-more (written-more (rw back at q) (subst (λ (k : ℕ). Written l₂ b (dec k) l₃ c) (e ∙ ap size_of back) s)) t)

  pub volume_put : {l l₁ l₂ l₃ l₄ : List ℕ} {at a b c r : ℕ} (d n : ℕ) → Written l at volume_key l₁ a → Written l₁ a (sign_of (rd z)) l₂ b → n ≡ size_of (rd z)
      → Written l₂ b (decimal (3 * d) (n / 6)) l₃ c → Written l₃ c (10 ∷ []) l₄ r → Written l at (volume_line d z) l₄ r
  unfolding volume_line
  volume_put d n p q e s t = written-more p (written-more (rw back at q) (written-more (rw (e ∙ ap size_of back) at s) t))

  pub lines-put : {l l₁ l₂ l₃ l₄ l₅ : List ℕ} {at a b c e r : ℕ} (d t n : ℕ) → n ≡ size_of (rd z) → Written l at (refusal_text 0) l₁ a
      → Written l₁ a (dec_line triangles_key t) l₂ b → Written l₂ b (six_line (rd z)) l₃ c → Written l₃ c (volume_line d (rd z)) l₄ e
      → Written l₄ e (dec_line sixths_key (n % 6)) l₅ r → Written l at (volume_text d t z) l₅ r
  unfolding volume_text
  lines-put d t n g p q s u v = written-more p (written-more q (written-more (rw back at s) (written-more (rw back at u) (rw (g ∙ ap size_of back) at v))))

-- ---- the answer

module _ {l l' : List ℕ} {at r : ℕ} (d t : ℕ) (v : Volume) where
  pub answer-done : v.status ≡ 0 → SFits w64 v.six → Written l at (volume_text d t (rd v.six)) l' r → Written l at (answer_text d t v) l' r
  unfolding answer_text
  answer-done e f p = rw (eq-eqb v.status 0 e) (rw (to_z-of_z w64 v.six f) at p)

  pub answer-refused : (v.status ≡ 0 → ⊥) → Written l at (refusal_text v.status) l' r → Written l at (answer_text d t v) l' r
  unfolding answer_text
  answer-refused e p = rw (ne_eqb v.status 0 e) p
