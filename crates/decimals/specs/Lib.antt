-- What the promises of this crate cite: whole numbers as text, what a reader of one answers, and a table of examples.
pub mod Decimals
pub mod Readers
pub mod Examples
