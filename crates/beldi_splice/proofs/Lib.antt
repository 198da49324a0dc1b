pub mod Alike
pub mod Both
pub mod Leading
pub mod Onward
pub mod Pruned
pub mod SpliceWhole
