pub mod Answers
pub mod ByTable
pub mod Codes
pub mod Executor
pub mod TransactionInPlace
pub mod Undo
