pub mod Deaths
pub mod FoundInside
pub mod Invariant
pub mod InvariantLaws
pub mod OneAnswer
