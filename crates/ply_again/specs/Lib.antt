-- What the promise of this crate cites: what is printed for a PLY file that is read and written again.
pub mod Again
