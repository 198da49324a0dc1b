pub mod Again
mod ByteLists
mod Exact
mod Midway
pub mod Ordered
mod Refused
pub mod RowExact
mod Tagged
mod Texts
mod Values
