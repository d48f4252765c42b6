-- A number that is read is one that fits its width.
use Rattle.std.proofs.Common.{rules, ◌≡◌, w64}
use Rattle.std.specs.Prelude.{ℤ}
use mir.Val.{SFits, to_z, of_z}
use mir.ValLaws.{to_z-of_z}
use Rattle.volume.specs.declared.Whole.{Whole}
use Rattle.api.specs.Volumes.{whole_at}
use Rattle.api.proofs.whole_at.Goals as goal

stored : (a b c : ℤ) → SFits w64 a → SFits w64 b → SFits w64 c → ◌≡◌ {A = Whole} (record { x = to_z w64 (of_z w64 a); y = to_z w64 (of_z w64 b); z = to_z w64 (of_z w64 c) }) (record { x = a; y = b; z = c })
stored a b c f g h = λ i. record { x = to_z-of_z w64 a f i; y = to_z-of_z w64 b g i; z = to_z-of_z w64 c h i }

pub returns : goal.returns
unfolding whole_at
returns c = stored _ _ _ (search rules) (search rules) (search rules)
