-- The laws of points: how rounding keeps signs and sizes, the fraction of a point, sums of points, that points and means are finite, and that a point lies between its ends.
pub mod Rounding
pub mod Sizes
pub mod Casts
pub mod Limits
pub mod Gaps
pub mod Fraction
pub mod Order
pub mod Means
pub mod Reach
pub mod Finite
pub mod Bits
pub mod Determined
pub mod Signed
pub mod Between
