-- What the theorems are stated with: their premises, and the segments on the faces of a cell.
pub mod Fit
pub mod Faces
pub mod Numbered
