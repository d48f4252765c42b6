-- What a count file asks for.
pub mod Asked
pub mod Told
