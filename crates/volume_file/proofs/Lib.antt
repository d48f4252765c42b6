-- Laws of the volume's text, of the words that are read, and of what is printed for a count file.
pub mod Printing
pub mod Reading
pub mod Texts
pub mod Example
pub mod Determined
