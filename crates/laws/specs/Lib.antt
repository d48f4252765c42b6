-- The definitions that the crates share: each file says what its names mean, and the file of the same name in proofs/ has their laws.
pub mod Bools
pub mod Ranges
pub mod Lists
pub mod Digits
pub mod Written
pub mod Filling
pub mod Couples
pub mod Triangles
pub mod Ints
pub mod Promises
pub mod Inner
