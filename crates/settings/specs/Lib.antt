pub mod Layout
pub mod Sets
pub mod Calls
pub mod Requests
