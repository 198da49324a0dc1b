pub mod BesideRows
mod Closed
pub mod Freeing
pub mod InvokedInside
pub mod Levels
pub mod LocksetRows
mod Names
pub mod TxTurn
pub mod Visited
