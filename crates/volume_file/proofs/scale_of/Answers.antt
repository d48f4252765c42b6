-- `volume_file::scale_of` meets its contract. Assumes nothing.
use mathlib.Core.Path.{◌≡◌, refl}
use mathlib.Core.List.{[], ◌∷◌, map}
use Prim.Native.Nat.{ℕ, zero, suc, ◌<◌}
use native.Mathlib.Omega.{arith}
use borrow.Author.Tests.{le-ltb}
use lib.Ieee.{binary64, nan, of_bits, of_int}
use lib.ListN.{get_or}
use Rattle.volume_file.specs.Text.{scale_of}
use Rattle.volume_file.proofs.scale_of.Goals as goal

-- each entry of the table is such a power
entry-is : (d : ℕ) → d < 7
    → get_or (map (of_bits binary64) (0x3FF0000000000000 ∷ 0x4024000000000000 ∷ 0x4059000000000000 ∷ 0x408F400000000000 ∷ 0x40C3880000000000 ∷ 0x40F86A0000000000 ∷ 0x412E848000000000 ∷ [])) d nan
    ≡ scale_of d
unfolding scale_of of_bits of_int
entry-is zero h = refl
entry-is (suc zero) h = refl
entry-is (suc (suc zero)) h = refl
entry-is (suc (suc (suc zero))) h = refl
entry-is (suc (suc (suc (suc zero)))) h = refl
entry-is (suc (suc (suc (suc (suc zero))))) h = refl
entry-is (suc (suc (suc (suc (suc (suc zero)))))) h = refl
entry-is (suc (suc (suc (suc (suc (suc (suc d))))))) h = absurd (omega arith)

pub returns-then-d-lt7 : goal.returns-then-d-lt7
returns-then-d-lt7 c = entry-is c.args.d c.if-d-lt7.true

pub returns : goal.returns
unfolding scale_of of_bits
returns c = rw (le-ltb c.args.d 7 c.if-d-lt7.false)
