-- `little_endian::get4` meets its contract. Assumes nothing.
use mathlib.Core.Path.{◌∙◌}
use native.Mathlib.Omega.{arith}
use Rattle.little_endian.proofs.Bytes.{number_copied}
use Rattle.little_endian.proofs.get4.Goals as goal

pub returns : goal.returns
returns c = (c.from_le_bytes.ensures ∙ number_copied 3 c.args.s.now _ c.args.at c.requires c.copy_from_slice.ensures.after, omega arith)
