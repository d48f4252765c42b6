-- What a caller from C or Rust hands over, and what it gets.
pub mod Calls
pub mod Files
pub mod Volumes
