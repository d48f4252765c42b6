-- `pairs::next_corner` meets its contract. Assumes nothing.
use native.Mathlib.Omega.{arith}
use Rattle.pairs.specs.Sides.{next}
use Rattle.pairs.proofs.next_corner.Goals as goal

pub returns-then-k-eq2 : goal.returns-then-k-eq2
unfolding next
returns-then-k-eq2 c = omega arith

pub returns-else-k-eq2 : goal.returns-else-k-eq2
unfolding next
returns-else-k-eq2 c = omega arith
