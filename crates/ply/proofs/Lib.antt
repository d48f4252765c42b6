-- Laws of reading PLY files: the header, the body, floats, and what the promises come to.
pub mod Heads
pub mod Reading
pub mod Answering
pub mod Files
pub mod Promises
pub mod Floats
pub mod Example
pub mod Rows
pub mod Determined
