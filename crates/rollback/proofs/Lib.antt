-- The laws of a round: the mask of a vertex's edges, one turn, the turns together, and round after round.
pub mod Masks
pub mod Points
pub mod Fronts
pub mod Holding
pub mod Vertex
pub mod Turns
pub mod Rounds
pub mod Determined
