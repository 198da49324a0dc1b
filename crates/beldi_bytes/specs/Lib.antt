pub mod BytesReading
pub mod Coding
pub mod KeyBytes
pub mod RowBytes
