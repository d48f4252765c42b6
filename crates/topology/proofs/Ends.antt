-- Ends that are not finite: to the topology test they are missing; and where each end is finite or missing, its values are taken as they are. Assumes nothing.
use Rattle.std.specs.Prelude.{Option, None}
use Rattle.std.proofs.Common.{◌≡◌, ℕ, zero, suc, Bool, List, [], ◌∷◌, map, get_or, refl}
use lib.Ieee.{Float}
use Rattle.samples.specs.Sides.{known}
use Rattle.samples.proofs.Known.{known_twice}
use Rattle.topology.specs.declared.TwoEdges.{TwoEdges}
use Rattle.topology.specs.Flat.{collapses_at, end_at, pairs_collapse}
use Rattle.topology.specs.Topology.{topology_of}
use Rattle.topology.proofs.Rows.{four}
use Rattle.topology.proofs.Answers.{depends_fourteen}

end_known : (ends : List (Option Float)) (e : ℕ) → end_at (map known ends) e ≡ end_at ends e
unfolding known
end_known [] e = refl
end_known (x ∷ ends) zero = known_twice x
end_known (x ∷ ends) (suc e) = end_known ends e

-- with the ends that are not finite put out, the answer is the same
pub ends-known : (near : ℕ) (cluster : Bool) (ends : List (Option Float)) (h : Float) → topology_of near cluster (map known ends) h ≡ topology_of near cluster ends h
ends-known near cluster ends h = depends_fourteen near cluster (map known ends) ends h (λ e l. end_known ends e)

-- where all are finite or missing, a row of Table 4 asks for the four values as they are
pub ends-taken : (ends : List (Option Float)) (h : Float) (o n : TwoEdges) → ((e : ℕ) → end_at ends e ≡ get_or ends e None)
    → pairs_collapse ends h o n ≡ collapses_at (get_or ends o.first None) (get_or ends o.second None) (get_or ends n.first None) (get_or ends n.second None) h
ends-taken ends h o n same = four ends h o n _ _ _ _ (same o.first) (same o.second) (same n.first) (same n.second)
