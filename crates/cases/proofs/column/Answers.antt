-- `cases::column` meets its contract. Assumes nothing.
use mathlib.Core.List.{[], ◌∷◌}
use Rattle.cases.specs.Inner.Codes.{column_at}
use Rattle.cases.proofs.column.Goals as goal

pub returns : goal.returns
unfolding column_at
returns c = λ i. c.value_code-a.ensures i ∷ c.value_code-b.ensures i ∷ c.value_code-c.ensures i ∷ c.value_code-d.ensures i ∷ []
