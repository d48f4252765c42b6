-- Laws of the count program.
pub mod Counts
pub mod Shown
pub mod Example
pub mod Determined
