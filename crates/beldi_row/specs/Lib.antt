pub mod Act
pub mod Key
pub mod KeyOrder
pub mod Log
pub mod Table
