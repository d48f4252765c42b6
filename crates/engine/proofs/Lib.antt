-- The laws of the engine: what stands in the lists after a pass, after a round, after all rounds, and at the end.
pub mod Standing
pub mod Passes
pub mod Rounds
pub mod Settling
pub mod Making
pub mod Masks
pub mod Unique
pub mod Determined
