-- Laws of a PLY file that is read and written again.
pub mod Again
pub mod Determined
