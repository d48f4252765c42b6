-- What the promises of inner functions cite. No public promise rests on it, and none of it has to be believed.
pub mod Begin
