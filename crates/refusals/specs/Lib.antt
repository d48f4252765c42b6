-- When a build is refused, and what a granted request gives the build.
pub mod Refusals
pub mod Examples
pub mod Inner
