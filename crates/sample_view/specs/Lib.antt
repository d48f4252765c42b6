-- The sample view: what it answers.
pub mod View
