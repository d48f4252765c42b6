-- What the promises of this crate cite: the words that the program is given, and what is printed for a count file.
pub mod Words
pub mod Text
pub mod Example
