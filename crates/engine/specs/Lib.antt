-- What the engine makes of a granted request.
pub mod Engine
pub mod Inner
