-- What is proved of meshes beside the functions' own proofs.
pub mod Determined
