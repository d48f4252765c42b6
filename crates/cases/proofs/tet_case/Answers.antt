-- `cases::tet_case` meets its contract. Assumes nothing.
use mathlib.Core.Path.{◌∙◌}
use Rattle.cases.proofs.Codes.{code_of-le, case_samples}
use Rattle.cases.proofs.tet_case.Goals as goal

pub case_by-requires : goal.case_by-requires
case_by-requires c = let a = c.args in (rw c.sample_code-w.ensures (code_of-le a.a a.h), rw c.sample_code-x.ensures (code_of-le a.b a.h), rw c.sample_code-y.ensures (code_of-le a.c a.h), rw c.sample_code-z.ensures (code_of-le a.d a.h))

pub returns : goal.returns
returns c = let a = c.args in rw (c.sample_code-w.ensures, c.sample_code-x.ensures, c.sample_code-y.ensures, c.sample_code-z.ensures) at c.case_by.ensures ∙ case_samples a.a a.b a.c a.d a.h
