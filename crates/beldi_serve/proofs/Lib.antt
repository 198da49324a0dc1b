mod Coming
pub mod Leading
mod Serving
