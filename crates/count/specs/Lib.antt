-- What the count program prints.
pub mod Count
