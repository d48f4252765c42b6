-- The invariant of the loop of `ply_write::put_words`. Assumes nothing.
use Prim.Native.Nat.{ℕ, ◌<◌, ◌^◌}
use mathlib.Core.List.{map}
use lib.ListN.{get_or}
use Rattle.laws.specs.Ranges.{each}
use Rattle.laws.specs.Written.{Written}
use Rattle.little_endian.specs.Bytes.{bytes_of}
use Rattle.ply_write.proofs.put_words.Given as goal

abbrev pub invariant-loop-w : goal.invariant-loop-w
invariant-loop-w g l = record {
  written : Written l.initial.out l.at (each l.w-index (λ i. bytes_of 8 (get_or (map g.W.Word.bits l.words) i 0))) l.out l.next;
  small : (k : ℕ) → k < l.w-index → get_or (map g.W.Word.bits l.words) k 0 < 2 ^ 64;
}
