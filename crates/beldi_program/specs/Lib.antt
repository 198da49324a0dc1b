pub mod Balances
pub mod Headline
pub mod Hosted
pub mod PlainRun
pub mod Service
pub mod Serves
