-- What the tables say, by rules where there are rules: edges and their neighbours, flat holes, tetrahedra, cases.
pub mod Edges
pub mod FlatHoles
pub mod Tets
pub mod Cases
pub mod Inner
