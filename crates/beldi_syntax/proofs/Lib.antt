pub mod Commands
pub mod Deep
pub mod Fill
pub mod First
pub mod Lookahead
mod Names
pub mod Pieces
pub mod Repeated
pub mod Sound
pub mod Terms
pub mod Texts
