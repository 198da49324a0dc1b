pub mod Joined
pub mod JoinedLaws
