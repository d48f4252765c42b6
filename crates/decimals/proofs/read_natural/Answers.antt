-- `decimals::read_natural` meets its contract. Assumes nothing.
use Rattle.std.proofs.Common.{◌∙◌, arith}
use Rattle.decimals.proofs.Meaning.{natural_of}
use Rattle.decimals.proofs.Reading.{none-empty, first_other, first-digit, stop-other, stop-zero, stop_long, turn, done}
use Rattle.decimals.proofs.read_natural.Goals as goal

pub returns-in_err-first : goal.returns-in_err-first
returns-in_err-first c = natural_of _ _ (c.from_residual.ensures ∙ none-empty _ c.in_err-first.ensures.cases)

pub returns-in_err-n : goal.returns-in_err-n
returns-in_err-n c = natural_of _ _ (c.from_residual-in_err-n.ensures ∙ first_other _ _ _ c.in_ok-first.ensures.cases.0 c.in_err-n.ensures)

pub loop-b-init : goal.loop-b-init
loop-b-init c = first-digit _ _ _ c.in_ok-first.ensures.cases.0 _ c.in_ok-n.ensures.0 c.in_ok-n.ensures.1

pub returns-then-n-eq0 : goal.returns-then-n-eq0
returns-then-n-eq0 c = natural_of _ _ (stop-zero _ _ _ _ c.loop-b.invariant c.loop-b-test.true c.if-n-eq0.true)

pub returns-in_err-d : goal.returns-in_err-d
returns-in_err-d c = natural_of _ _ (c.from_residual-in_err-d.ensures ∙ stop-other _ _ _ _ c.loop-b.invariant c.loop-b-test.true c.in_err-d.ensures)

pub returns-in_err-checked_mul : goal.returns-in_err-checked_mul
returns-in_err-checked_mul c =
    natural_of _ _
    (c.from_residual-in_err-checked_mul.ensures
    ∙ stop_long _ _ _ _ c.loop-b.invariant c.loop-b-test.true c.in_ok-d.ensures.0 (λ g. c.in_err-checked_mul.ensures (omega arith)))

pub returns-in_err-n-2 : goal.returns-in_err-n-2
returns-in_err-n-2 c =
    natural_of _ _
    (c.from_residual-in_err-n-2.ensures
    ∙ stop_long _ _ _ _ c.loop-b.invariant c.loop-b-test.true c.in_ok-d.ensures.0 (λ g. c.in_err-n-2.ensures (omega (arith, c.in_ok-d.ensures.1, c.in_ok-checked_mul.ensures.1))))

pub loop-b-preserved : goal.loop-b-preserved
loop-b-preserved c = turn _ _ _ _ c.loop-b.invariant c.loop-b-test.true c.in_ok-d.ensures.0 _ c.if-n-eq0.false (omega (arith, c.in_ok-d.ensures.1, c.in_ok-checked_mul.ensures.1, c.in_ok-n-2.ensures.0)) (omega (arith, c.in_ok-d.ensures.1, c.in_ok-checked_mul.ensures.1, c.in_ok-n-2.ensures.1))

pub returns : goal.returns
returns c = natural_of _ _ (done _ _ _ _ c.loop-b.invariant c.loop-b-test.false)
