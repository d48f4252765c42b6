-- What the promises of this crate cite: the form of a PLY file, and the writers' answers. Example has what is printed for a small mesh,
-- Inner what a private function answers on the way.
pub mod Form
pub mod Answers
pub mod Example
pub mod Inner
