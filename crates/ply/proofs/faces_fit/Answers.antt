-- `ply::faces_fit` meets its contract. Assumes nothing.
use native.Mathlib.Omega.{arith}
use Rattle.ply.proofs.Reading.{faces-more}
use Rattle.ply.proofs.faces_fit.Goals as goal

pub loop-k-init : goal.loop-k-init
loop-k-init c = λ j h. absurd (omega (arith, h))

pub loop-k-preserved : goal.loop-k-preserved
loop-k-preserved c = faces-more _ _ _ _ c.loop-k.invariant c.if-not-face_fits.ensures

pub returns : goal.returns
returns c = λ j h. c.loop-k.invariant j (omega (arith, h, c.loop-k-test.false))
