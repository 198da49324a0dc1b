pub mod CallTurns
pub mod Callees
