-- Steps and invariants of the loops: what the promises of inner functions cite. No public promise rests on them, and none of it has to be believed.
pub mod Loop
pub mod Held
