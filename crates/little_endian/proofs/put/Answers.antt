-- `little_endian::put` meets its contract. Assumes nothing.
use mathlib.Core.Path.{ap, ◌∙◌}
use lib.ListN.{take}
use Rattle.little_endian.proofs.Bytes.{low_take, put_bytes}
use Rattle.little_endian.proofs.put.Goals as goal

pub returns : goal.returns
returns g c = put_bytes _ _ _ c.args.at c.args.w c.requires.room (c.copy_from_slice.ensures.after ∙ ap (take _) c.to_le_bytes-bytes.ensures ∙ low_take _ c.args.w c.requires.few)
