-- The laws of the sample view: one for each way out of a lookup, what the struct owns, and what the view says of the samples.
pub mod Lookups
pub mod Laws
pub mod Determined
