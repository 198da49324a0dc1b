pub mod Done
pub mod Rounds
pub mod Sweep
pub mod SweepLaws
pub mod SweptRows
