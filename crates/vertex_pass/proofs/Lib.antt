-- The laws of the vertex pass: flags and lists of candidates, one cluster, the clusters of a site, the cases.
pub mod Passing
pub mod Vertex
pub mod Site
pub mod Box
pub mod Determined
