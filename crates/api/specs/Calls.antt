-- What a caller from C or Rust hands over, and what the counts list holds afterwards. Assumes nothing.
use Rattle.std.specs.Prelude.{◌≡◌, List, [], ◌∷◌, ℕ, eqb, Float, Option, Some}
use Rattle.laws.specs.Ranges.{each}
use Rattle.marks.specs.Marks.{sample}
use Rattle.topology.specs.Topology.{topology_of, case_number}
use Rattle.points.specs.declared.Frame.{Frame}
use Rattle.points.specs.Positions.{frame_of}
use Rattle.build.specs.declared.Answer.{Answer}
use Rattle.build.specs.Answer.{Lists, counts_of, BuildIn}

-- six numbers: the origin, then the step
unfoldable pub frame_at : List Float → Frame
frame_at f = frame_of (record { x = sample f 0; y = sample f 1; z = sample f 2 }) (record { x = sample f 3; y = sample f 4; z = sample f 5 })

-- the values at the fourteen ends of a site; to the topology test one that is not finite is missing
unfoldable pub ends_at : List Float → List (Option Float)
ends_at l = each 14 (λ e. Some (sample l e) ∷ [])

-- ---- the promises

-- a call of the build in the lists l, which l' are afterwards: r is the answer's number, and the list c has its counts
pub record CallOf (nu nv nw method R : ℕ) (inside : Float) (f S : List Float) (l l' : Lists) (r : ℕ) (c : List ℕ) : Type 0 where
  pub answer : Answer
  pub is : BuildIn (record { nu = nu; nv = nv; nw = nw }) method R inside (frame_at f) S l l' answer
  pub status : r ≡ answer.status
  pub counts : c ≡ counts_of answer

-- a call of the topology test: r is the case's number, the list c has the clusters, and the list v the visits
pub record TopologyTold (mask method : ℕ) (inside : Float) (ends : List Float) (r : ℕ) (c v : List ℕ) : Type 0 where
  pub case : r ≡ case_number (topology_of mask (eqb method 1) (ends_at ends) inside).case
  pub clusters : c ≡ (topology_of mask (eqb method 1) (ends_at ends) inside).clusters.masks
  pub visits : v ≡ (topology_of mask (eqb method 1) (ends_at ends) inside).visits ∷ []
