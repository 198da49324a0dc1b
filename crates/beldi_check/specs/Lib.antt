pub mod CallGraph
pub mod Keeps
pub mod Rules
pub mod Site
