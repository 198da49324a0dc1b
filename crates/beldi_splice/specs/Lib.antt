pub mod Onward
pub mod Splice
pub mod SpliceLaws
