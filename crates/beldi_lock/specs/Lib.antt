pub mod Last
pub mod Lock
pub mod Locked
pub mod Lockset
