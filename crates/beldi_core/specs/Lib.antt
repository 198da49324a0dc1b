pub mod Counts
pub mod Live
pub mod LiveRuns
pub mod PlannedEvent
