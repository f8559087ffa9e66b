pub mod Rules
pub mod Good
pub mod Flags
pub mod Handlers
