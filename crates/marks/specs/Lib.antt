-- The marks: what each mask is, how many edges are crossed, the masks with the held fraction, and the loops that find them.
pub mod Marks
pub mod Held
pub mod Inner
