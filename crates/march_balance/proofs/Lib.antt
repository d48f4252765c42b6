-- The balance of the march, and what follows from it.
pub mod Boxes
pub mod Cells
pub mod Triangles
pub mod Telescope
pub mod Sites
pub mod Balance
pub mod Shared
pub mod Once
pub mod Slabs
pub mod Numbered
pub mod Examples
