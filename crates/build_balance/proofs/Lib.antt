-- Demand 3 of the definition: the surface of a build is closed.
pub mod Surface
pub mod Left
pub mod Volumes
pub mod Check
pub mod Witness
