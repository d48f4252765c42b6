-- The laws of the cases: the numbers of corners, the columns of a row of cells, and a site's layer alone.
pub mod Codes
pub mod Columns
pub mod Tails
pub mod Determined
