-- What the promises of this crate cite: the readers' answers. Rows is a table of answers of readers and writers, Inner what private functions answer on the way.
pub mod Answers
pub mod Rows
pub mod Inner
