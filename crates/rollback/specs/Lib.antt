-- What a round of rollback takes and leaves, and its turns by the lists.
pub mod Inner
