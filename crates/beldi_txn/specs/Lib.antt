pub mod CallPath
pub mod Closed
pub mod End
pub mod Invokes
pub mod Tx
pub mod TxTurn
pub mod TxWalk
pub mod Visited
