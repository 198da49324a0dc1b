mod Balance
mod BankFlows
mod BankKept
pub mod BankRuns
mod Effects
mod Sums
mod Values
