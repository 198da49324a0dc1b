pub mod Blocks
pub mod Bounds
mod Names
pub mod Occurs
pub mod OneByOne
pub mod Resumes
pub mod SameWants
pub mod Spends
