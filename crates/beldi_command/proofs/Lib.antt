pub mod Answered
pub mod Asked
pub mod Entered
pub mod Options
pub mod Pairs
pub mod Refused
pub mod Serving
