pub mod CommandLine
pub mod Parser
