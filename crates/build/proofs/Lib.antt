-- The laws of the build: the answer and the lists at the end, what stands at the fronts of the lists, and that the promise determines it all.
pub mod Grants
pub mod Answering
pub mod Unique
pub mod Fronts
pub mod Determined
