pub mod Lines
pub mod Tokens
pub mod Forms
pub mod Faults
pub mod Code
