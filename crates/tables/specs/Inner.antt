-- What inner functions ask for. No public promise rests on it, and none of it has to be believed.
pub mod Offsets
