mod Bodies
mod ExpectedNotes
pub mod Finished
pub mod Frees
mod Growing
mod Makers
mod Spares
pub mod WantedKept
