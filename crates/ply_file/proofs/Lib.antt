-- Laws of the PLY file of a build's mesh, and of the PLY text of a count file.
pub mod Meshes
pub mod Texts
pub mod Example
pub mod Determined
