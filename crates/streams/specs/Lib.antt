-- What is said of the bytes that were read.
pub mod Counts
