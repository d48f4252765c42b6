-- The laws of the march: one cell, its cases from the samples, the flat lists of its loops, sites and layers, what its triangles are, finer lookups, and its answer.
pub mod Cells
pub mod Cases
pub mod Flat
pub mod March
pub mod Walk
pub mod Edges
pub mod Finer
pub mod Answer
pub mod Determined
