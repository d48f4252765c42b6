-- `volume_file::print` meets its contract. Assumes nothing.
use mathlib.Core.Path.{◌≡◌, refl, ap}
use native.Mathlib.Omega.{arith}
use lib.IntN.{ℤ}
use Rattle.std.specs.Prelude.{Result}
use Rattle.volume.specs.Volume.{number_of, refused, told}
use Rattle.volume.specs.declared.Refusal.{Refusal}
use Rattle.volume.specs.declared.Refusal.TheVariants.{Lists, Scale, Corner}
use Rattle.volume_file.proofs.Printing.{answer-done, answer-refused}
use Rattle.volume_file.proofs.print.Goals as goal

some_number : (e : Refusal) → number_of e ≡ 0 → ⊥
some_number Lists z = omega arith
some_number Scale z = omega arith
some_number Corner z = omega arith

pub put_lines-requires : goal.put_lines-requires
unfolding told refused
put_lines-requires c = (c.requires.0 (ap (λ (r : Result ℤ Refusal). (told r).status) c.in-Ok.is), omega (arith, c.requires.1))

pub returns-in-Ok : goal.returns-in-Ok
unfolding told refused
returns-in-Ok c = rw c.in-Ok.is (answer-done _ _ _ refl (record { sfits = omega arith }) c.put_lines.ensures)

pub returns-in-Err : goal.returns-in-Err
unfolding told refused
returns-in-Err c = rw c.in-Err.is (answer-refused _ _ _ (some_number c.in-Err.refusal) (rw c.number.ensures at c.put_status.ensures))
