mod Ages
mod Askers
mod Asyncs
mod Beginnings
mod Callings
mod CallsHere
pub mod Cases
mod Closing
mod Committed
mod Deaths
mod Deciding
pub mod Ended
mod Endings
pub mod Events
mod ExpectedOutside
mod Fallen
pub mod FirstOutcomes
pub mod Frames
mod GivingBack
mod Grown
pub mod InTx
mod Keeping
mod KeptWellFormed
pub mod Listing
pub mod Lives
mod Locking
pub mod Members
pub mod Moves
pub mod Names
pub mod NewestTicket
pub mod OneAnswer
pub mod OneEvent
pub mod OpenOf
mod OperationTurns
pub mod Others
pub mod Outside
mod Owning
pub mod Passing
mod Readings
mod Registered
mod Released
pub mod Returns
mod Settling
mod Short
mod Shown
pub mod StageTurns
pub mod Standing
pub mod Starts
mod Visiting
mod Visits
pub mod Widths
pub mod Working
