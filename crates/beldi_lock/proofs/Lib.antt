pub mod Firsts
mod IdBefore
pub mod Last
mod Locked
mod Names
