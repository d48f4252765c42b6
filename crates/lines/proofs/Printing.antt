-- Laws of printing: a number digit by digit, and how long the line of a status can be. Assumes nothing.
use mathlib.Core.Path.{◌≡◌, sym}
use mathlib.Core.List.{List, append_assoc}
use Prim.Native.Nat.{ℕ, ◌+◌, ◌-◌, ◌/◌, ◌%◌, ◌^◌, ◌≤◌, ◌<◌}
use native.Mathlib.Omega.{arith}
use lib.ListN.{length, set, length-append}
use lib.Seq.{sets, sets-eq, drop-drop}
use borrow.Rule.Slice.PartMut.{put_mid}
use Rattle.laws.specs.Written.{Written}
use Rattle.laws.proofs.Written.{written_one, written-more}
use Rattle.lines.specs.Numbers.{dec}
use Rattle.lines.specs.Status.{status, refusal_text}
use Rattle.lines.proofs.Decimals.{dec-small, dec_large}
use Rattle.lines.proofs.Lines.{key_of, line-room}

-- ---- a number

pub put-digit : (l : List ℕ) (at n : ℕ) → n < 10 → Written l at (dec n) (set l at (48 + n)) (at + 1)
put-digit l at n h = rw (dec-small n h) (written_one l at (48 + n))

pub put_last : (l l' : List ℕ) (at mid n : ℕ) → 10 ≤ n → n < 2 ^ 64 → Written l at (dec (n / 10)) l' mid → Written l at (dec n) (set l' mid (48 + n % 10)) (mid + 1)
put_last l l' at mid n h b p = rw (dec_large n h (omega arith)) (written-more p (written_one l' mid (48 + n % 10)))

pub longer : (n : ℕ) → 10 ≤ n → n < 2 ^ 64 → length (dec n) ≡ length (dec (n / 10)) + 1
longer n h b = rw (dec_large n h (omega arith), length-append)

-- ---- a part that was copied over

pub part_put : (l r text : List ℕ) (at : ℕ) → at + length text ≤ length l → r ≡ text → put_mid at (at + length text - at) l r ≡ sets l at text
part_put l r text at h e =
    let n : at + length text - at ≡ length text = omega arith in
    rw (n, e, drop-drop) (rw append_assoc at (sym (sets-eq text l at h)))

-- ---- the line of a status

-- it never takes more than 28 bytes
pub refusal-length : (n : ℕ) → length (refusal_text n) ≤ 28
unfolding key_of
refusal-length n = omega (arith, line-room status n)
