-- What each public function promises, as its source states it, determines the answer and every entry of what it is lent. Assumes nothing.
use Rattle.std.proofs.Common.{sym, ◌∙◌}
use Rattle.laws.specs.Promises.{OneAnswer}
use Rattle.topology.proofs.case_number.Reads as case-number
use Rattle.topology.proofs.connected_components_masks.Reads as connected-components-masks
use Rattle.topology.proofs.visit_total.Reads as visit-total
use Rattle.topology.proofs.test_topology.Reads as test-topology

pub case_number_determined : OneAnswer case-number.Post
case_number_determined κ a y z e f p q = p ∙ sym q

pub connected_components_masks_determined : OneAnswer connected-components-masks.Post
connected_components_masks_determined κ a y z e f p q = p ∙ sym q

pub visit_total_determined : OneAnswer visit-total.Post
visit_total_determined κ a y z e f p q = p ∙ sym q

pub test_topology_determined : OneAnswer test-topology.Post
test_topology_determined κ a y z e f p q = p ∙ sym q
