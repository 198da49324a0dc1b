pub mod Held
pub mod LateFailure
