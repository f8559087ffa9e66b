pub mod Lines
pub mod Passing
pub mod Arranging
pub mod Asking
pub mod Surveying
