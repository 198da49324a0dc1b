pub mod Again
pub mod Books
pub mod Cuts
pub mod LineFeeds
mod Names
pub mod Orders
pub mod Others
pub mod ReadPlaces
pub mod Starts
