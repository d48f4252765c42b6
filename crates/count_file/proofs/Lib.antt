-- Laws of the count file and of the printed answer.
pub mod Heads
pub mod Files
pub mod Printing
pub mod Determined
pub mod Example
