pub mod Shadow
pub mod Shadowed
