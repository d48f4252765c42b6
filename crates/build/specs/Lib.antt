-- What a build answers, and what it promises.
pub mod Answer
pub mod Inner
