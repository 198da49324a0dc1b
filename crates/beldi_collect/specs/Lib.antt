pub mod Collect
pub mod Cursor
