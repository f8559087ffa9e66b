pub mod Listing
pub mod Code
