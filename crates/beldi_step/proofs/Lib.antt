pub mod AnyStep
mod CalledInside
pub mod Failures
pub mod Forward
pub mod Given
pub mod PastDeadline
pub mod Plans
pub mod Prunes
pub mod PutRun
pub mod Shut
pub mod Spares
pub mod StepRuns
pub mod Stride
