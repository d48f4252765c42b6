-- What the promises of this crate cite: the whole number nearest to a float, a coordinate less the origin's number, and a table of examples.
pub mod Whole
pub mod Coordinates
pub mod Examples
