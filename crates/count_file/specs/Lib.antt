-- What the promises of this crate cite: the count file, what is read from it, and the answer that is printed.
pub mod CountFile
pub mod Parsed
pub mod Answer
pub mod Example
pub mod Inner
