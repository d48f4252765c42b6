-- The invariant of the loop of `volume::sum_of`. Assumes nothing.
use Prim.Native.Nat.{◌*◌, ◌≤◌}
use mathlib.Core.Path.{◌≡◌}
use lib.ListN.{length, drop}
use Rattle.std.specs.Slice.Iter.{chunks_exact_size, chunks_exact_rest}
use Rattle.volume.proofs.Sums.{Summed}
use Rattle.volume.proofs.sum_of.Given as goal

abbrev pub invariant-loop-t : goal.invariant-loop-t
invariant-loop-t l = record {
  threes : chunks_exact_size l.t-iterator ≡ 3;
  rest : chunks_exact_rest l.t-iterator ≡ drop (3 * length l.yielded) l.triangles;
  within : 3 * length l.yielded ≤ length l.triangles;
  sum : Summed l.positions l.scale l.origin l.triangles (length l.yielded) l.six;
}
