pub mod HostCore
pub mod HostInvariant
pub mod HostStride
pub mod LastRow
pub mod Opening
pub mod ReplyStatus
pub mod Survey
