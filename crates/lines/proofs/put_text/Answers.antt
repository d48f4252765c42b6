-- `lines::put_text` meets its contract. Assumes nothing.
use mathlib.Core.Path.{refl}
use Rattle.lines.proofs.Printing.{part_put}
use Rattle.lines.proofs.put_text.Goals as goal

pub returns : goal.returns
returns c = record { buf = part_put _ _ _ _ c.requires c.copy_from_slice.ensures.after; next = refl }
