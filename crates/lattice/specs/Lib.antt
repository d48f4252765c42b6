-- The box of sites, the site across an edge, and the owner of an edge.
pub mod Sites
pub mod Across
pub mod Owner
