-- Laws of writing PLY files: how long each part is, floats, and what the promise comes to.
pub mod Writing
pub mod Floats
pub mod Promises
pub mod Determined
