-- Laws of the volume: Determinants, Corners and Sums for the code, Answers says what each status means and that the sum fits, Order and Moved have the theorems
-- about other orders, directions and origins, Examples the table of examples.
pub mod Determinants
pub mod Corners
pub mod Sums
pub mod Answers
pub mod Order
pub mod Moved
pub mod Examples
pub mod Determined
