pub mod Grows
pub mod Heads
pub mod OneRow
