pub mod Callees
pub mod Checked
pub mod Deadlines
pub mod Freed
pub mod Passed
pub mod Upkeep
pub mod WorksFor
pub mod Written
