-- What is proved of the wrappers beside their own proofs.
pub mod Determined
