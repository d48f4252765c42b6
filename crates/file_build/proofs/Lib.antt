-- Laws of what a count file asks for.
pub mod Building
pub mod Status
pub mod Told
pub mod Determined
