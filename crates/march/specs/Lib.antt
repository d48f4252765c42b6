-- The march of tetrahedra: one cell, the box, what is said of its triangles, the same over lists, finer lookups, and a small box.
pub mod Cells
pub mod March
pub mod Runs
pub mod Lists
pub mod Finer
pub mod Examples
pub mod Inner
