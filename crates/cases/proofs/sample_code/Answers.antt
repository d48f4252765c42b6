-- `cases::sample_code` meets its contract. Assumes nothing.
use Rattle.cases.specs.Inner.Codes.{code, code_of, value_code}
use Rattle.cases.proofs.sample_code.Goals as goal

pub returns-in-None : goal.returns-in-None
unfolding code_of code
returns-in-None c = rw c.in-None.is

pub returns-in-Some : goal.returns-in-Some
unfolding value_code
returns-in-Some c = rw c.in-Some.is c.value_code.ensures
