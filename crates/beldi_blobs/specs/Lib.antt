pub mod Texts
pub mod BlobEntries
pub mod Queries
pub mod BlobCalls
