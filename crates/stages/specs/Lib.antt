-- A build as one list of vertices: the box it is over, the vertices, the split, the rounds, and the lists it leaves; and its stages.
pub mod Boxes
pub mod Vertices
pub mod Meshes
pub mod Splits
pub mod Rounds
pub mod Samples
pub mod Stages
pub mod Inner
