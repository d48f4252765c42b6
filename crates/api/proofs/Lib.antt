-- What the promises of the library determine.
pub mod Unique
pub mod Determined
