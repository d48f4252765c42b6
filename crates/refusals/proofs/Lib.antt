-- The laws of refusals: the number for each way out, that the first test that fails gives it, and what a granted request gives.
pub mod Status
pub mod Lowest
pub mod Granted
pub mod Thresholds
pub mod Determined
