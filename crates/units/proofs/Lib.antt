-- Laws of whole numbers and coordinates: Nearest and Rounding tie the code's sums of floats to the definition, Meaning says what the definition means,
-- Examples has the table of examples.
pub mod Nearest
pub mod Coordinates
pub mod Rounding
pub mod Meaning
pub mod Examples
pub mod Determined
