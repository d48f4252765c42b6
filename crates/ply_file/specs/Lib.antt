-- What the promise of this crate cites: the PLY text for a count file; and an example.
pub mod Text
pub mod Example
