-- What the loops of one site do, edge by edge, and what it is to append vertices.
pub mod Inner
