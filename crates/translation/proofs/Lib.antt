pub mod Emission
pub mod Accepted
pub mod Known
pub mod Parts
pub mod Writing
pub mod Whole
pub mod Seeking
