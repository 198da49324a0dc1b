pub mod Cost
pub mod Ends
pub mod Left
pub mod SettleWork
pub mod Visits
