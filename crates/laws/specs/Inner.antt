-- Invariants of loops: what proofs of inner functions cite. No public promise rests on them, and none of it has to be believed.
pub mod Visits
