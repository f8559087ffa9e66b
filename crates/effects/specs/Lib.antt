pub mod Errors
pub mod Effects
pub mod Results
pub mod Deeds
