-- The numbers to check by (docs/SCOPE.md, S14.1).
pub mod Numbers
