pub mod Settle
pub mod Settles
