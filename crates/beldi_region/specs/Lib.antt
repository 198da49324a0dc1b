pub mod Blocks
pub mod Follows
pub mod Ids
pub mod Lends
pub mod Region
pub mod RegionTable
pub mod SlotOrder
pub mod Slots
