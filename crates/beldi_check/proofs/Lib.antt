pub mod Firsts
pub mod Grids
pub mod Keeps
mod Names
pub mod Paths
