mod Callees
mod CountMaps
mod Counting
pub mod Least
pub mod Lives
mod Names
pub mod Plans
pub mod RunMaps
pub mod Truths
