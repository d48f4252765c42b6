-- Numbers as bytes.
pub mod Bytes
