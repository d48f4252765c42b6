-- Laws of reading and printing whole numbers: Meaning has reading as a function, which the loops of Reading are tied to, Printing has lengths and appending,
-- Examples the table of examples.
pub mod Meaning
pub mod Reading
pub mod Printing
pub mod Examples
pub mod Determined
