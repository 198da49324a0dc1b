pub mod CellEntries
pub mod Changed
pub mod Collectors
pub mod Marks
pub mod Prune
pub mod PruneLaws
pub mod Seat
pub mod Unlink
