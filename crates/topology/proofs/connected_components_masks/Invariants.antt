-- The invariant and the measure of each loop of `topology::connected_components_masks`. Assumes nothing.
use Rattle.std.proofs.Common.{◌-◌}
use lib.Bits.{bit_xor}
use lib.Count.{ones_in}
use Rattle.topology.proofs.WalkLoops.{Inner, Outer}
use Rattle.topology.proofs.connected_components_masks.Given as goal

abbrev pub invariant-walk : goal.invariant-walk
invariant-walk l =
    Inner (bit_xor l.initial.remaining l.seed) l.remaining l.comp l.frontier l.initial.visits l.visits

abbrev pub decreases-walk : goal.decreases-walk
decreases-walk l = 14 - ones_in 14 l.comp

abbrev pub invariant-comps : goal.invariant-comps
invariant-comps l = Outer l.edge_mask l.remaining l.masks l.count l.visits

abbrev pub decreases-comps : goal.decreases-comps
decreases-comps l = ones_in 14 l.remaining
