pub mod Book
pub mod BookLaws
pub mod BookText
pub mod EntryLine
pub mod EntryWords
pub mod LinearOrder
pub mod ReadPlaces
