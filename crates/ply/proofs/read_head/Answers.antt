-- `ply::read_head` meets its contract. Assumes nothing.
use mathlib.Core.Path.{sym}
use Rattle.ply.proofs.Heads.{no_opening, no_middle, no_closing, head_got}
use Rattle.ply.proofs.read_head.Goals as goal

pub returns-in_err-vertices : goal.returns-in_err-vertices
returns-in_err-vertices c = rw c.from_residual.ensures (no_opening _ c.in_err-vertices.ensures)

pub returns-in_err-faces : goal.returns-in_err-faces
returns-in_err-faces c = rw c.from_residual-in_err-faces.ensures (no_middle _ _ _ c.in_ok-vertices.ensures c.in_err-faces.ensures)

pub returns-then-has : goal.returns-then-has
returns-then-has c = head_got _ _ _ c.in_ok-vertices.ensures _ _ c.in_ok-faces.ensures (rw c.if-has.true at (sym c.has.ensures))

pub returns : goal.returns
returns c = no_closing _ _ _ c.in_ok-vertices.ensures _ _ c.in_ok-faces.ensures (rw c.if-has.false at (sym c.has.ensures))
