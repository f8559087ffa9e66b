pub mod Values
pub mod Parts
pub mod Rows
pub mod Readings
pub mod Heard
