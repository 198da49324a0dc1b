pub mod Observed
pub mod Taking
mod Transfers
