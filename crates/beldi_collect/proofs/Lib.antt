pub mod CollectTurns
pub mod Jumps
