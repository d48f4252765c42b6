-- The laws of the box: numbers and coordinates, the site across an edge, and the owner of an edge.
pub mod Sites
pub mod OtherEnds
pub mod Owner
pub mod Source
pub mod Determined
