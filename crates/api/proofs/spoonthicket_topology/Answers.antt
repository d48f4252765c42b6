-- What is told is the topology test of the known ends.
use Rattle.std.specs.Prelude.{Option, Float}
use Rattle.std.proofs.Common.{List, [], ◌∷◌, nat_eq, ap, ◌∙◌}
use Rattle.topology.specs.declared.TopologyResult.{TopologyResult}
use Rattle.topology.specs.Topology.{topology_of, case_number}
use Rattle.api.proofs.spoonthicket_topology.Goals as goal

pub returns : goal.returns
returns c =
    let known = ap (λ (l : List (Option Float)). topology_of c.args.mask (nat_eq c.args.method 1) l c.args.inside) c.ends_at-known.ensures in
    let found = c.test_topology-found.ensures ∙ known in
    record {
      case = c.case_number.ensures ∙ ap (λ (r : TopologyResult). case_number r.case) found;
      clusters = ap (λ (r : TopologyResult). r.clusters.masks) found;
      visits = ap (λ (r : TopologyResult). r.visits ∷ []) found;
    }
