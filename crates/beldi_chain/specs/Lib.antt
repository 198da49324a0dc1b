pub mod Chain
pub mod ChainLaws
pub mod Content
