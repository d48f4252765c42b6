-- `mesh::named` meets its contract. Assumes nothing.
use Rattle.std.proofs.Common.{ℕ, ◌<◌, List, Bool, true, false, ◌↔◌, get_or, rules, true≢false, sym, refl}
use Rattle.std.specs.Prelude.{EachIndex, IsTrue}
use Rattle.laws.specs.Bools.{Tells}
use Rattle.laws.specs.Lists.{All}
use Rattle.laws.proofs.Lists.{all-index, all_member}
use Rattle.mesh.proofs.named.Goals as goal

-- a test at each index answers the question about every member
tells_all : (v : ℕ) (l : List ℕ) (r : Bool) → IsTrue r ↔ EachIndex l (λ k. get_or l k 0 < v) → Tells (All (λ x. x < v) l) r
tells_all v l true e = all-index 0 (λ x. x < v) l (e.0 refl)
tells_all v l false e = λ a. true≢false (sym (e.1 (all_member 0 (λ x. x < v) l a)))

pub returns : goal.returns
returns c = tells_all _ _ _ (search rules)
