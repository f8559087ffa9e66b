pub mod Images
pub mod Places
pub mod Resolving
pub mod Code
