mod SessionCalls
mod Led
mod SessionLines
mod Names
mod Refusals
pub mod Responses
mod SettleEvents
mod Strides
mod Sweeps
mod SweepTurns
pub mod Went
