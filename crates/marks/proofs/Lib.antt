-- The laws of the marks: a layer as a box of its own, every bit, the exact masks, the count, what a mask depends on, and that it is the same with the held fraction.
pub mod Layers
pub mod Bits
pub mod Masks
pub mod Count
pub mod Local
pub mod Held
pub mod Rooms
pub mod Determined
