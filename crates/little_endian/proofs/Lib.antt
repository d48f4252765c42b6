-- Laws of numbers as bytes.
pub mod Bytes
pub mod Determined
