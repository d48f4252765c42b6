-- `topology::two_edge_indices` meets its contract. Assumes nothing.
use Rattle.std.proofs.Common.{ℕ, ap, arith}
use lib.Bits.{bit_xor}
use lib.Count.{trailing_le}
use Rattle.topology.specs.Parts.{low}
use Rattle.topology.proofs.two_edge_indices.Goals as goal

pub overflow_cast-first : goal.overflow_cast-first
overflow_cast-first c = omega (arith, trailing_le 16 c.args.mask)

pub overflow_cast-second : goal.overflow_cast-second
overflow_cast-second c = omega (arith, trailing_le 16 (bit_xor c.args.mask c.lowbit-b.result))

pub returns : goal.returns
returns c = ap (λ (b : ℕ). record { first = low c.args.mask; second = low (bit_xor c.args.mask b) }) c.lowbit-b.ensures
