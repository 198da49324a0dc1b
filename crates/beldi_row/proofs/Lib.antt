mod Found
mod Fronts
pub mod Gets
pub mod Keys
pub mod Least
pub mod Logs
pub mod Removed
pub mod Room
pub mod TableRows
pub mod Tells
pub mod Unchanged
