-- The frame and its limits, positions, points on edges, means, what a finite point is, what lies between two values, and examples.
pub mod Positions
pub mod Limits
pub mod EdgePoints
pub mod Means
pub mod Finite
pub mod Between
pub mod Examples
