-- What the promises of this crate cite: numbers as text, lines, headers of parts, the line of a status; and, for inner functions, what readers answer.
pub mod Numbers
pub mod Lines
pub mod Parts
pub mod Status
pub mod Inner
