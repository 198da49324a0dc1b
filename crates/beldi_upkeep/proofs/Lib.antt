mod Asked
pub mod Asking
mod CallLaws
mod Carried
mod CellActs
mod Chains
mod Edges
pub mod EndRows
mod EndsLast
mod Finishes
mod FirstTurns
mod Firsts
pub mod Frees
pub mod FromInvariant
mod Functions
pub mod GivenBack
pub mod UpkeepKept
mod Leaving
pub mod Nearness
pub mod NewWork
pub mod Notes
mod Open
pub mod Overs
mod Past
mod PastActs
mod PastAsks
mod PastAnswers
mod PastEnds
mod PastFront
mod PastGaps
pub mod PastLaws
pub mod PastOwn
mod PastRows
mod PastOutputs
mod PastStages
mod PastTurns
pub mod Quiet
mod Roots
pub mod RowNotes
mod RowSets
mod OutputOwes
mod SeatRows
pub mod Shapes
pub mod Sites
mod StageOutputs
pub mod Started
pub mod Still
mod Stranded
pub mod Together
mod TurnKeeps
mod TurnRows
mod Upkept
mod Workers
