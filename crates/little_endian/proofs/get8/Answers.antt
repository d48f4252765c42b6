-- `little_endian::get8` meets its contract. Assumes nothing.
use mathlib.Core.Path.{◌∙◌}
use Rattle.little_endian.proofs.Bytes.{number_copied}
use Rattle.little_endian.proofs.get8.Goals as goal

pub returns : goal.returns
returns c = c.from_le_bytes.ensures ∙ number_copied 7 c.args.s.now _ c.args.at c.requires c.copy_from_slice.ensures.after
