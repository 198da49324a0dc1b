pub mod FailingTable
pub mod MapTable
pub mod Opened
