-- What the promises and the theorems of this crate cite: six times the volume, triangles reversed, turned and in another order, and a table of examples.
pub mod Volume
pub mod Triangles
pub mod Parts
pub mod Examples
