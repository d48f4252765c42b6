-- What the phases of a build promise under their plain names.
pub mod Promises
