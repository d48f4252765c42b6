-- The laws of one site's vertices: where its edges lead, and their places in the edge table.
pub mod Ends
pub mod Places
pub mod Drawing
pub mod Points
pub mod Appending
pub mod Determined
