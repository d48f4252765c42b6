-- What the promises of this crate cite: the sides of triangles, how often each pair is a side, and the flags of the sides.
pub mod Sides
pub mod Inner
