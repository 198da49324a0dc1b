pub mod HostInvariant
mod HostLines
mod HostNewest
mod HostSteps
mod LastRows
mod Looks
mod Names
mod Openings
mod Pruned
mod Skips
mod Strides
pub mod Taken
