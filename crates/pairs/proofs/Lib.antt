-- Laws that several proofs use, and those of crates above.
pub mod Sides
pub mod Listing
pub mod Runs
pub mod Flags
pub mod Determined
