-- The cases of a tetrahedron and of a site from the samples, and those of a small box.
pub mod Cases
pub mod Examples
pub mod Inner
