-- A run of lines printed one by one: what the first k lines wrote, and the room that is left. Assumes nothing.
use mathlib.Core.Path.{◌≡◌}
use mathlib.Core.List.{List, []}
use Prim.Native.Nat.{ℕ, ◌+◌, ◌-◌, ◌*◌, ◌≤◌, ◌<◌}
use native.Mathlib.Omega.{arith}
use lib.ListN.{length, get_or, drop, take, length-drop}
use lib.Seq.{length-take-le}
use borrow.Author.Tests.{lt-leb}
use Rattle.laws.specs.Written.{Written}
use Rattle.laws.specs.Ranges.{each}
use Rattle.laws.proofs.Ranges.{each_none}
use Rattle.laws.proofs.Written.{written_none, written-turn, written-done, written-length}
use Rattle.lines.specs.Lines.{Dec, dec_line, line_of, lines}
use Rattle.lines.proofs.Lines.{key_of, line-room, lines-each}
use Rattle.lines.specs.Inner.Forms.{first_key, field_of, form_of}
use Rattle.lines.proofs.Rows.{Row, row-start, row-end, row-turn, row_field, form-length}

-- line i of the run
abbrev line_at : List ℕ → List ℕ → ℕ → List ℕ
line_at keys vals i = line_of (get_or (form_of (length vals) (length vals) keys) i (Dec [])) (get_or vals i 0)

pub record Put (keys vals l₀ : List ℕ) (at : ℕ) (l : List ℕ) (next p k : ℕ) : Type 0 where
  pub some : k ≤ length vals
  pub row : Row keys p k
  pub written : Written l₀ at (each k (line_at keys vals)) l next
  pub room : next + (length keys - p) + 21 * (length vals - k) ≤ length l

pub put-start : (keys vals l : List ℕ) (at : ℕ) → at + length keys + 21 * length vals ≤ length l → Put keys vals l at l at 0 0
put-start keys vals l at h = record { some = omega arith; row = row-start keys; written = rw each_none (written_none l at); room = omega arith }

module _ (keys vals l₀ : List ℕ) (at : ℕ) (l : List ℕ) (next p k : ℕ) (r : Put keys vals l₀ at l next p k) where
  module _ (h : k < length vals) (q : ℕ) (e : q ≡ p + length (first_key (drop p keys))) where
    line_most_lem : (n : ℕ) → length (dec_line (take (q - p) (drop p keys)) n) ≤ (q - p) + 21
    unfolding line_of key_of
    line_most_lem n =
        let m : length (take (q - p) (drop p keys)) ≡ q - p = length-take-le (q - p) (drop p keys) (rw length-drop (omega (arith, row-end keys p k r.row q e))) in
        omega (arith, line-room (Dec (take (q - p) (drop p keys))) n, m)

    pub put_fits : (n : ℕ) → next + length (dec_line (take (q - p) (drop p keys)) n) ≤ length l
    put_fits n = omega (arith, line_most_lem n, r.room, row-end keys p k r.row q e, e, h)

    pub put-turn : (l' : List ℕ) (next' : ℕ) → Written l next (dec_line (take (q - p) (drop p keys)) (get_or vals k 0)) l' next' → Put keys vals l₀ at l' next' q (k + 1)
    unfolding field_of line_of
    put-turn l' next' w =
        let f : get_or (form_of (length vals) (length vals) keys) k (Dec []) ≡ Dec (take (q - p) (drop p keys)) = rw (lt-leb (length vals) k h) at (row_field keys p k r.row q e (length vals) (length vals) (Dec []) h) in
        let w' : Written l next (line_at keys vals k) l' next' = rw f w in
        record {
          some = omega arith;
          row = row-turn keys p k r.row q e;
          written = written-turn (line_at keys vals) k r.written w';
          room = omega (arith, line_most_lem (get_or vals k 0), r.room, row-end keys p k r.row q e, e, h, w.next, written-length w);
        }

  pub put-done : length vals ≤ k → Written l₀ at (lines (form_of (length vals) (length vals) keys) vals) l next
  put-done h =
      let m : length (form_of (length vals) (length vals) keys) ≡ length vals = form-length (length vals) (length vals) keys in
      rw (lines-each (Dec []) (form_of (length vals) (length vals) keys) vals m, m) (written-done (line_at keys vals) k (length vals) r.written r.some h)
