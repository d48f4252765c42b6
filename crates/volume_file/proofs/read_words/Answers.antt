-- `volume_file::read_words` meets its contract. Assumes nothing.
use mathlib.Core.Path.{refl}
use native.Mathlib.Omega.{arith}
use Rattle.volume_file.proofs.Reading.{no_digits, many_digits, no_x, no_y, no_z, all_read}
use Rattle.volume_file.proofs.read_words.Goals as goal

pub returns-in_err-n : goal.returns-in_err-n
returns-in_err-n c = rw c.from_residual.ensures (no_digits _ _ _ _ c.in_err-n.ensures refl)

pub returns-then-n-gt6 : goal.returns-then-n-gt6
returns-then-n-gt6 c = many_digits _ _ _ _ _ c.in_ok-n.ensures refl (omega (arith, c.if-n-gt6.true))

pub returns-in_err-ox : goal.returns-in_err-ox
returns-in_err-ox c = rw c.from_residual-in_err-ox.ensures (no_x _ _ _ _ c.in_err-ox.ensures refl)

pub returns-in_err-oy : goal.returns-in_err-oy
returns-in_err-oy c = rw c.from_residual-in_err-oy.ensures (no_y _ _ _ _ c.in_err-oy.ensures refl)

pub returns-in_err-oz : goal.returns-in_err-oz
returns-in_err-oz c = rw c.from_residual-in_err-oz.ensures (no_z _ _ _ _ c.in_err-oz.ensures refl)

pub returns : goal.returns
returns c =
    all_read _ _ _ _ _ _ _ _ c.in_ok-n.ensures refl (omega (arith, c.if-n-gt6.false)) c.in_ok-ox.ensures refl c.in_ok-oy.ensures refl
    c.in_ok-oz.ensures refl
