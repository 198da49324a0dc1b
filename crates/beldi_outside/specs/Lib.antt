pub mod Connection
pub mod Memory
pub mod MemoryLink
pub mod Outside
pub mod Ready
