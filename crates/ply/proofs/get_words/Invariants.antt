-- The invariant of the loop of `ply::get_words`. Assumes nothing.
use Prim.Native.Nat.{◌+◌, ◌*◌}
use mathlib.Core.List.{[], ◌∷◌}
use Rattle.laws.specs.Ranges.{each}
use Rattle.laws.specs.Written.{Written}
use Rattle.little_endian.specs.Bytes.{number_at}
use Rattle.ply.proofs.get_words.Given as goal

abbrev pub invariant-loop-k : goal.invariant-loop-k
invariant-loop-k l = Written l.initial.words 0 (each l.k (λ i. number_at 8 l.s (l.at + i * 8) ∷ [])) l.words l.k
