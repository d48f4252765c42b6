-- What readers of lines and of runs answer, and the fields that a string of keys says. No public promise of a program or a file rests on it, and none of it has
-- to be believed.
pub mod Readers
pub mod Forms
pub mod Stored
