-- `ply_write::length_of` meets its contract. Assumes nothing.
use mathlib.Core.Path.{sym, ◌∙◌}
use Rattle.ply_write.proofs.Writing.{length-is, length-none_v, length-none_f}
use Rattle.ply_write.proofs.length_of.Goals as goal
use Rattle.ply_write.proofs.length_of.Goals.{else-vertices-lt1000000000-via-then-vertices-lt1000000000+else-faces-lt1000000000, else-vertices-lt1000000000-via-else-vertices-lt1000000000}

pub returns-then-faces-lt1000000000 : goal.returns-then-faces-lt1000000000
returns-then-faces-lt1000000000 c = c.size.ensures ∙ sym (length-is _ _ c.if-vertices-lt1000000000.true c.if-faces-lt1000000000.true)

pub returns : goal.returns
returns c = elim c.else-vertices-lt1000000000.branch [
  | else-vertices-lt1000000000-via-then-vertices-lt1000000000+else-faces-lt1000000000 w ↦ sym (length-none_f _ _ w.if-vertices-lt1000000000.true w.if-faces-lt1000000000.false)
  | else-vertices-lt1000000000-via-else-vertices-lt1000000000 w ↦ sym (length-none_v _ _ w.if-vertices-lt1000000000.false)
]
