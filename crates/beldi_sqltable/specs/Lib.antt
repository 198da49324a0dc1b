pub mod StoreCounts
pub mod RowTable
pub mod Store
