-- `cases::code_sum` meets its contract. Assumes nothing.
use borrow.Author.Rules.{rules}
use mathlib.Core.Path.{◌≡◌, refl, sym, ap, ◌∙◌}
use Prim.Native.Nat.{ℕ}
use native.Mathlib.Omega.{arith}
use lib.ListN.{get_or}
use Rattle.laws.specs.Ranges as ranges
use Rattle.laws.proofs.Sums.{sum-none, sum-turn}
use Rattle.cases.specs.Inner.Codes.{code_sum}
use Rattle.cases.proofs.code_sum.Goals as goal

pub loop-code-init : goal.loop-code-init
loop-code-init c = (sym (sum-none _), search rules)

pub overflow_add-sum : goal.overflow_add-sum
overflow_add-sum c = let at = c.loop-code in omega (arith, at.invariant.1, c.requires.small at.code-index c.loop-code-test.true)

pub loop-code-preserved : goal.loop-code-preserved
loop-code-preserved c = let at = c.loop-code in
    (sum-turn _ at.code-index _ _ at.invariant.0 refl, omega (arith, at.invariant.1, c.requires.small at.code-index c.loop-code-test.true))

pub returns : goal.returns
unfolding code_sum
returns c = let at = c.loop-code in
    let e : at.code-index ≡ 8 = omega arith in
    at.invariant.0 ∙ ap (λ (k : ℕ). ranges.sum k (λ (i : ℕ). get_or c.args.codes.now i 0)) e
