-- What each public function promises, as its source states it, determines the answer and every entry of what it is lent. Assumes nothing.
use mathlib.Core.Path.{sym, ◌∙◌}
use Rattle.laws.specs.Promises.{OneAnswer}
use Rattle.cases.proofs.tet_case.Reads as tet-case
use Rattle.cases.proofs.corner_sample.Reads as corner-sample
use Rattle.cases.proofs.case_at.Reads as case_at
use Rattle.cases.proofs.tetrahedron_cases.Reads as tetrahedron-cases
use Rattle.cases.proofs.site_cases.Reads as site-cases
use Rattle.cases.proofs.code_sum.Reads as code_sum
use Rattle.cases.proofs.column.Reads as column
use Rattle.cases.proofs.join.Reads as join

pub tet_case_determined : OneAnswer tet-case.Post
tet_case_determined κ a y z e f p q = p ∙ sym q

pub corner_sample_determined : OneAnswer corner-sample.Post
corner_sample_determined κ a y z e f p q = p ∙ sym q

pub case_at_determined : OneAnswer case_at.Post
case_at_determined κ a y z e f p q = p ∙ sym q

pub tetrahedron_cases_determined : OneAnswer tetrahedron-cases.Post
tetrahedron_cases_determined κ a y z e f p q = p ∙ sym q

pub site_cases_determined : OneAnswer site-cases.Post
site_cases_determined κ a y z e f p q = p ∙ sym q

pub code_sum_determined : OneAnswer code_sum.Post
code_sum_determined κ a y z e f p q = p ∙ sym q

pub column_determined : OneAnswer column.Post
column_determined κ a y z e f p q = p ∙ sym q

pub join_determined : OneAnswer join.Post
join_determined κ a y z e f p q = p ∙ sym q
