-- What is asked of the samples.
pub mod Border
pub mod Left
