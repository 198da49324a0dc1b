pub mod Formed
pub mod Names
pub mod Parted
pub mod ReadAgain
pub mod ScriptLines
