-- Laws that several proofs use, and those of crates above.
pub mod Decimals
pub mod ReadDecimal
pub mod Hex
pub mod ReadHex
pub mod Keys
pub mod Lines
pub mod Parts
pub mod Runs
pub mod Rows
pub mod Printing
pub mod PutRuns
pub mod Determined
