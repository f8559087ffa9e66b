pub mod Trying
pub mod Visiting
