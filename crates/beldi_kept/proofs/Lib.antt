mod KeptAhead
mod Alive
pub mod Begins
mod Between
mod CellSets
pub mod Collecting
mod Coming
mod Declared
mod Drops
mod Elsewhere
mod Events
mod Finds
pub mod Gone
mod Items
mod ItemStages
mod ItemTurns
mod ItemWrites
mod KeptKeeps
pub mod LeftRows
pub mod Less
mod Looks
pub mod KeptNewest
mod NextAlike
mod Onward
mod Owned
mod Passing
mod Removals
pub mod Seated
mod Staying
mod Step
pub mod Telling
mod Turn
mod KeptTurns
mod VisitAlike
mod Visits
mod KeptWhole
pub mod WholeTurns
