-- `topology::lowbit` meets its contract. Assumes nothing.
use Rattle.std.proofs.Common.{rules}
use Rattle.topology.proofs.Walk.{low_bit_law}
use Rattle.topology.proofs.lowbit.Goals as goal

pub returns : goal.returns
returns c = low_bit_law c.args.x c.wrapping_sub_u16.result (search rules) (search rules) c.wrapping_sub_u16.ensures.value
