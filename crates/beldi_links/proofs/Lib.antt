pub mod Grows
pub mod Last
pub mod LinkKeeps
pub mod Meets
pub mod Ways
