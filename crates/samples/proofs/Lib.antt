-- What is proved of samples beside the functions' own proofs.
pub mod Known
pub mod Determined
pub mod Held
