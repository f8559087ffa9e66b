pub mod Matching
pub mod Filling
pub mod Choosing
pub mod Packed
