pub mod Differences
pub mod Calls
pub mod Requests
