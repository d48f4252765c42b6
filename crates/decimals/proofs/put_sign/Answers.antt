-- `decimals::put_sign` meets its contract. Assumes nothing.
use mathlib.Core.Path.{◌≡◌, sym, ap, ◌∙◌}
use mathlib.Core.Bool.{Bool}
use native.Mathlib.Omega.{arith}
use lib.IntN.{ℤ, pos}
use lib.Signed.{lt_z}
use mir.Syntax.{w64}
use mir.ValLaws.{to_z-of_z}
use Rattle.std.proofs.Common.{FitsSigned}
use Rattle.laws.proofs.Sizes.{rd}
use Rattle.decimals.proofs.Printing.{sign-minus, sign-none, sign-some}
use Rattle.decimals.proofs.put_sign.Goals as goal

-- the test of the number that was handed over
plain : (z : ℤ) → FitsSigned w64 z → (b : Bool) → lt_z (rd z) (pos 0) ≡ b → lt_z z (pos 0) ≡ b
plain z f b e = ap (λ (y : ℤ). lt_z y (pos 0)) (sym (to_z-of_z w64 z f)) ∙ e

pub bounds-out-at : goal.bounds-out-at
bounds-out-at c = omega (arith, c.requires, sign-some c.args.z (plain c.args.z c.ranges.z _ c.if-z-lt0.true))

pub returns-then-z-lt0 : goal.returns-then-z-lt0
returns-then-z-lt0 c = sign-minus _ _ c.args.z (plain c.args.z c.ranges.z _ c.if-z-lt0.true)

pub returns : goal.returns
returns c = sign-none _ _ c.args.z (plain c.args.z c.ranges.z _ c.if-z-lt0.false)
