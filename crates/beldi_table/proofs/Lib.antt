pub mod Changes
pub mod Indexes
mod Next
