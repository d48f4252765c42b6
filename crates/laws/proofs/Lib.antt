-- The laws of the shared definitions, by the file that has the definition; Blocks has those of lists in equally long blocks, Tails those of parts of
-- slices, Weighing those of sums over lists in another order, Ints those of integers, Sizes those of their sizes and of what fits 64 bits, Floats those of the order of floats.
pub mod Bools
pub mod Ranges
pub mod Blocks
pub mod Sums
pub mod Lists
pub mod Digits
pub mod Visits
pub mod Written
pub mod Filling
pub mod Tails
pub mod Weighing
pub mod Couples
pub mod Triangles
pub mod Ints
pub mod Sizes
pub mod Floats
pub mod Arrays
