-- The topology test: the components of a mask, flat holes (also with the held fraction), the six cases and their clusters.
pub mod Parts
pub mod Walk
pub mod Flat
pub mod Held
pub mod Topology
