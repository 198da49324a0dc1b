pub mod Aparts
pub mod Copies
pub mod Evaluated
pub mod Lookups
mod Names
pub mod TextKeys
