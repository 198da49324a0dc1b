pub mod Sweeping
pub mod Tidy
