pub mod Queries
pub mod Lent
pub mod Looks
pub mod Promises
