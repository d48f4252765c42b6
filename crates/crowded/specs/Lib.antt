-- What the promises of this crate cite: flags by vertex and by site behind the flags of the sides, and the turns of the loops that set them.
pub mod Inner
