pub mod Bars
pub mod Logged
pub mod OneRow
pub mod Spares
pub mod WalkTurns
