pub mod Grown
pub mod GuardLaws
pub mod PlainLaws
pub mod TransactionMoves
pub mod Txs
pub mod WellFormedState
