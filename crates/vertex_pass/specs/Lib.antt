-- The vertex pass: the candidates in order, each split or whole by its flag, and the count of the sites' cases.
pub mod Inner
