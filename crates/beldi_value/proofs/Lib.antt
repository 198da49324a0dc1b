pub mod Ages
pub mod Callees
pub mod Converting
pub mod Fields
pub mod IdTexts
pub mod Ints
pub mod JsonText
pub mod Maps
pub mod Marks
mod Names
pub mod Numbers
pub mod ReadAgain
pub mod Results
pub mod Slashes
pub mod Within
