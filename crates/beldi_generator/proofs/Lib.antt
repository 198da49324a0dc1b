mod Requests
pub mod WorkWords
