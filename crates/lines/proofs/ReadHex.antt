-- Reading sixteen hex digits: what has been read so far is the print of the number so far; and each way in which there are none. Assumes nothing.
use mathlib.Core.Path.{◌≡◌, sym, ap, ◌∙◌}
use mathlib.Core.List.{List, [], ◌∷◌, ◌++◌, append_assoc}
use Prim.Native.Nat.{ℕ, ◌+◌, ◌-◌, ◌*◌, ◌^◌, ◌≤◌, ◌<◌}
use native.Mathlib.Nat.{add_assoc, add-zero}
use native.Mathlib.Numerals.{add-one}
use native.Mathlib.Omega.{arith}
use lib.ListN.{length, get_or, drop, take, length-append, length-drop, get_or-append}
use lib.Seq.{get_or-drop, get_or-take, get_or_at}
use Rattle.std.specs.Prelude.{Some, None}
use Rattle.lines.specs.Numbers.{hex, hex_digit}
use Rattle.lines.specs.Lines.{hex_end, Word}
use Rattle.lines.specs.Inner.Readers.{Absent, hex_val}
use Rattle.lines.proofs.Hex.{val_is, hex-length, hex-more, hex_at, fits, small_word}
use Rattle.lines.proofs.ReadDecimal.{next_byte}

pub record Sofar (s : List ℕ) (from n k : ℕ) : Type 0 where
  pub some : k ≤ 16
  pub small : n < 16 ^ k
  pub here : drop from s ≡ hex k n ++ drop (from + k) s

-- the sixteen bytes from a place on
pub part_at : (s : List ℕ) (from k : ℕ) → k < 16 → get_or (take (from + 16 - from) (drop from s)) k 0 ≡ get_or s (from + k) 0
part_at s from k h =
    let n : from + 16 - from ≡ 16 = omega arith in
    rw n (get_or-take 16 (drop from s) k 0 h ∙ get_or-drop from s k 0)

pub start : (s : List ℕ) (from : ℕ) → Sofar s from 0 0
unfolding hex
start s from = record { some = omega arith; small = omega arith; here = rw add-zero }

module _ (s : List ℕ) (from n k : ℕ) (at : Sofar s from n k) (room : from + 16 ≤ length s) where
  pub turn : k < 16 → (d : ℕ) → Some d ≡ hex_val (get_or s (from + k) 0) → Sofar s from (n * 16 + d) (k + 1)
  turn h d e =
      let v = val_is (get_or s (from + k) 0) d (sym e) in
      let b : d < 16 = v.small in
      let g : hex_digit d ≡ get_or s (from + k) 0 = v.print in
      record {
        some = omega arith;
        small = rw add-one (fits k n d at.small b);
        here = at.here ∙ rw (next_byte s (from + k) (omega arith), add-one k, hex-more k n d b, g, append_assoc, ← add-one k, add_assoc);
      }

  -- the number so far and a digit more fit a word
  pub turn_fits : k < 16 → (d : ℕ) → Some d ≡ hex_val (get_or s (from + k) 0) → n * 16 + d < 2 ^ 64
  turn_fits h d e = small_word (k + 1) (n * 16 + d) (omega arith) (rw add-one (fits k n d at.small (val_is (get_or s (from + k) 0) d (sym e)).small))

  pub bad-digit : k < 16 → None ≡ hex_val (get_or s (from + k) 0) → Absent hex_end Word s from
  bad-digit h z = record {
    none = λ m rest b e.
        let g : get_or (drop from s) k 0 ≡ get_or (hex 16 m) k 0 =
        ap (λ l. get_or l k 0) (e ∙ append_assoc (hex 16 m) (10 ∷ []) rest) ∙ get_or-append (hex 16 m) (10 ∷ rest) 0 k (rw (hex-length 16 m) h) in
        hex_at 16 m k h (rw (← g, get_or-drop from s k 0) (sym z));
  }

  pub bad-end : k ≡ 16 → (get_or s (from + 16) 0 ≡ 10 → ⊥) → Absent hex_end Word s from
  bad-end h z = record {
    none = λ m rest b e.
        z (sym (get_or-drop from s 16 0) ∙ ap (λ l. get_or l 16 0) (e ∙ append_assoc (hex 16 m) (10 ∷ []) rest) ∙ get_or_at (hex 16 m) 10 rest 0 16 (hex-length 16 m));
  }

pub too_short : (s : List ℕ) (from : ℕ) → length s - from < 16 → Absent hex_end Word s from
too_short s from h = record {
  none = λ m rest b e.
      let l = ap length e in
      omega (arith, hex-length 16 m, simp (length-append, length-drop) at l);
}
