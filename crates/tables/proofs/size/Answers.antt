-- `tables::size` meets its contract. Assumes nothing.
use Rattle.std.proofs.Common.{◌≡◌, refl, ap, ◌∙◌, w8, ℤ, pos, negsuc, nat_abs}
use mir.ValLaws.{to_z-of_z}
use Rattle.laws.specs.Ints.{size_of}
use Rattle.tables.proofs.size.Goals as goal

-- the library's size of a number is the definition's
size-abs : (z : ℤ) → nat_abs z ≡ size_of z
unfolding size_of
size-abs (pos n) = refl
size-abs (negsuc n) = refl

pub returns : goal.returns
returns c = c.unsigned_abs.ensures.value ∙ ap nat_abs (to_z-of_z w8 c.args.x c.ranges.x) ∙ size-abs c.args.x
