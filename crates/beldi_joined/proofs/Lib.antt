pub mod After
pub mod Books
pub mod RaisedEvents
pub mod RaisedPrunes
pub mod RaisedRuns
pub mod RaisedTurns
pub mod Reopened
pub mod Settlings
