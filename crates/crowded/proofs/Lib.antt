-- The laws of the flags behind a: what the loops do, what that means, and what it says of a build.
pub mod Turns
pub mod Meaning
pub mod Meshes
pub mod Split
pub mod Rollback
pub mod Determined
