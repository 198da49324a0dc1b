pub mod Desk
pub mod ServedConnections
