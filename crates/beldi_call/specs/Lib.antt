pub mod Async
pub mod Call
