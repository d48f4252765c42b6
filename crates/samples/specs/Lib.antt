-- Sides of the surface and crossings of edges, with the free fraction and with the held one.
pub mod Sides
pub mod Held
