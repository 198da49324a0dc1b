mod ListedLines
pub mod Totals
pub mod Unbroken
