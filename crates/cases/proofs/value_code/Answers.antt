-- `cases::value_code` meets its contract. Assumes nothing.
use Rattle.laws.specs.Bools.{bit}
use Rattle.cases.specs.Inner.Codes.{code, code_of, value_code}
use Rattle.cases.proofs.value_code.Goals as goal

pub returns-then-is_inside : goal.returns-then-is_inside
unfolding value_code code_of code bit
returns-then-is_inside c = rw (← c.is_finite.ensures, ← c.is_inside.ensures, c.if-is_finite.true, c.if-is_inside.true)

pub returns-else-is_inside : goal.returns-else-is_inside
unfolding value_code code_of code bit
returns-else-is_inside c = rw (← c.is_finite.ensures, ← c.is_inside.ensures, c.if-is_finite.true, c.if-is_inside.false)

pub returns-else-is_finite : goal.returns-else-is_finite
unfolding value_code code_of code
returns-else-is_finite c = rw (← c.is_finite.ensures, c.if-is_finite.false)
