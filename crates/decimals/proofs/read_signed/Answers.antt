-- `decimals::read_signed` meets its contract. Assumes nothing.
use Rattle.std.proofs.Common.{◌∙◌}
use Rattle.decimals.proofs.Meaning.{downward, upward}
use Rattle.decimals.proofs.Reading.{tried, down_zero, down_none, down_some, below, above}
use Rattle.decimals.proofs.read_signed.Goals as goal

pub returns-in_err-size : goal.returns-in_err-size
unfolding downward
returns-in_err-size c = let a = c.in-Some.ensures.cases in below _ _ _ _ a.0 a.1 c.in_err-size.ensures c.from_residual.ensures

pub returns-in_err-checked_sub : goal.returns-in_err-checked_sub
returns-in_err-checked_sub c =
    let a = c.in-Some.ensures.cases in
    below _ _ _ _ a.0 a.1 c.in_ok-size.ensures (c.from_residual-in_err-checked_sub.ensures ∙ down_zero _ c.in_err-checked_sub.ensures)

pub returns-in_err-m : goal.returns-in_err-m
returns-in_err-m c =
    let a = c.in-Some.ensures.cases in
    below _ _ _ _ a.0 a.1 c.in_ok-size.ensures
    (c.from_residual-in_err-m.ensures ∙ down_none _ _ c.in_ok-checked_sub.ensures (tried _ _ _ c.try_from.ensures c.in_err-m.ensures.value))

pub returns-in-Some : goal.returns-in-Some
returns-in-Some c =
    let a = c.in-Some.ensures.cases in
    below _ _ _ _ a.0 a.1 c.in_ok-size.ensures (down_some _ _ c.in_ok-checked_sub.ensures _ (tried _ _ _ c.try_from.ensures c.in_ok-m.ensures.value))

pub returns-in_err-n : goal.returns-in_err-n
unfolding upward
returns-in_err-n c = above _ _ _ c.in_default.ensures.cases c.in_err-n.ensures c.from_residual-in_err-n.ensures

pub returns : goal.returns
returns c = above _ _ _ c.in_default.ensures.cases c.in_ok-n.ensures (tried _ _ _ c.try_from-2.ensures c.ok-2.ensures.value)
