-- `volume::corner_of` meets its contract. Assumes nothing.
use Rattle.std.proofs.Common.{◌∙◌, arith}
use Rattle.volume.specs.Volume.{scaled}
use Rattle.volume.proofs.Corners.{got, corner-one, corner-two, corner-three, corner_in}
use Rattle.volume.proofs.corner_of.Goals as goal

pub returns-in_err-x : goal.returns-in_err-x
unfolding scaled
returns-in_err-x c = c.from_residual.ensures ∙ corner-one _ _ _ _ (record { sfits = omega arith }) c.in_err-x.ensures

pub returns-in_err-y : goal.returns-in_err-y
unfolding scaled
returns-in_err-y c =
    c.from_residual-in_err-y.ensures
    ∙ corner-two _ _ _ _ (got _ _ (record { sfits = omega arith }) _ c.in_ok-x.ensures) (record { sfits = omega arith }) c.in_err-y.ensures

pub returns-in_err-z : goal.returns-in_err-z
unfolding scaled
returns-in_err-z c =
    c.from_residual-in_err-z.ensures
    ∙ corner-three _ _ _ _ (got _ _ (record { sfits = omega arith }) _ c.in_ok-x.ensures) (got _ _ (record { sfits = omega arith }) _ c.in_ok-y.ensures)
    (record { sfits = omega arith }) c.in_err-z.ensures

pub returns : goal.returns
unfolding scaled
returns c =
    corner_in _ _ _ _ (got _ _ (record { sfits = omega arith }) _ c.in_ok-x.ensures) (got _ _ (record { sfits = omega arith }) _ c.in_ok-y.ensures)
    (got _ _ (record { sfits = omega arith }) _ c.in_ok-z.ensures)
