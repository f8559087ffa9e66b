pub mod Lines
pub mod Scanning
pub mod Packing
pub mod Words
pub mod Signs
pub mod Filled
pub mod Faults
pub mod Heard
